-- The nulls below conditions, as they are noted.
use Rattle.std.proofs.Common.{◌≡◌, ◌≢◌, ◌⊎◌, ℕ, zero, suc, ◌+◌, ◌<◌, Bool, true, false, ◌||◌, List, [], ◌∷◌, ◌++◌, length, take, get_or, refl, ap, sym, ◌∙◌, subst, inl, inr, if◌then◌else◌}
use Rattle.std.{specs.Prelude.{IsTrue, Contains}, specs.List.{list_any}, specs.Ordering.{nat_cmp}, specs.BTreeSet.{BTreeSet, Updates}, proofs.lemmas.Bool.{cases_eq, false≢true, or_cases, or_left, or_right}, proofs.lemmas.List.{take_more}, proofs.lemmas.List.Folds.list_any-append}
use Rattle.indexmap.specs.IndexSet.{insert_key}
use Rattle.std.proofs.lemmas.List.Elements.{Contains-get_or, Contains-push_cases}
use Rattle.ct_word.{specs.declared.values.Null.Null, specs.Value.{same_null}, specs.Reading.{as_term, term_at}, specs.Stands.TermBelow, specs.WellFormed.{IsWellFormed}}
use Rattle.ct_word.{proofs.Alike.null_decides, proofs.Items.{first_item, item_cases, later_item, no_item}}
use Rattle.ct_worlds.{specs.declared.nulls.Nulls.Nulls, specs.Gathering.has, specs.Shape.{parts_at}, specs.Truths.ArePartsFirst}
use Rattle.ct_worlds.specs.Nulls.{AddsNulls, AreNulls, AreNullsBelow, HasTerms, IsNullAt, IsNullBelow, KeepsNulls, has_null}
use Rattle.ct_worlds.proofs.{Passing.not_at, Shaped.term_below}
use Rattle.ct_word.specs.declared.values.Term.TheVariants as term

any_same : (n m : Null) (ns : List Null) → list_any (same_null m) (ns ++ n ∷ []) ≡ (list_any (same_null m) ns || (same_null m n || false))
any_same n m ns = list_any-append (same_null m) ns (n ∷ [])

-- a null put into a set
pub keyed : (ns : List Null) (n m : Null) → IsTrue (has_null ns m) → IsTrue (has_null (insert_key same_null ns n) m)
keyed ns n m h = by (list_any (same_null n) ns) where
  by : (b : Bool) → IsTrue (has_null (if b then ns else ns ++ n ∷ []) m)
  by true = h
  by false = any_same n m ns ∙ or_left _ _ h

pub keyed_itself : (ns : List Null) (n : Null) → IsTrue (has_null (insert_key same_null ns n) n)
keyed_itself ns n = by (list_any (same_null n) ns) refl where
  by : (b : Bool) → list_any (same_null n) ns ≡ b → IsTrue (has_null (if b then ns else ns ++ n ∷ []) n)
  by true e = e
  by false e = any_same n n ns ∙ or_right _ _ (or_left _ _ ((null_decides n n).1 refl))

keyed_cases : (ns : List Null) (n m : Null) → IsTrue (has_null (insert_key same_null ns n) m) → IsTrue (has_null ns m) ⊎ (m ≡ n)
keyed_cases ns n m = by (list_any (same_null n) ns) where
  by : (b : Bool) → IsTrue (has_null (if b then ns else ns ++ n ∷ []) m) → IsTrue (has_null ns m) ⊎ (m ≡ n)
  by true h = inl h
  by false h = elim (or_cases (list_any (same_null m) ns) (same_null m n || false) (sym (any_same n m ns) ∙ h)) [
    | inl there ↦ inl there
    | inr last ↦ elim (or_cases (same_null m n) false last) [ inl e ↦ inr ((null_decides m n).0 e) | inr f ↦ absurd (false≢true f) ]
  ]

-- the place of a term was put into a set
module _ (words : List ℕ) (old new : Nulls) (place : ℕ) (so_far : AreNulls words old) (here : has new.places place ≡ true) (others : (q : ℕ) → q ≢ place → has new.places q ≡ has old.places q) where
  has_more : (q : ℕ) → IsTrue (has old.places q) → IsTrue (has new.places q)
  has_more q h = elim (cases_eq q place) [ inl same ↦ ap (has new.places) same ∙ here | inr ne ↦ others q ne ∙ h ]

  has_before : (q : ℕ) → IsTrue (has new.places q) → (q ≡ place) ⊎ IsTrue (has old.places q)
  has_before q h = elim (cases_eq q place) [ inl same ↦ inl same | inr ne ↦ inr (sym (others q ne) ∙ h) ]

  -- which is a null
  pub nulls_more : (n : Null) → IsNullAt words n place → new.listed.keys ≡ insert_key same_null old.listed.keys n → AreNulls words new
  nulls_more n is keys = record {
    each = λ m h. elim (keyed_cases old.listed.keys n m (subst (λ l. IsTrue (has_null l m)) keys h)) [
      | inl there ↦ let o = so_far.each m there in (o.0, has_more o.0 o.1, o.2)
      | inr same ↦ (place, here, subst (λ k. IsNullAt words k place) (sym same) is)
    ];
    all = λ q m h at. subst (λ l. IsTrue (has_null l m)) (sym keys) (elim (has_before q h) [
      | inl same ↦
          let one : m ≡ n = null_of (sym at.null ∙ ap (term_at words) same ∙ is.null) in
          subst (λ k. IsTrue (has_null (insert_key same_null old.listed.keys n) k)) (sym one) (keyed_itself old.listed.keys n)
      | inr before ↦ keyed old.listed.keys n m (so_far.all q m before at)
    ]);
  } where
    null_of : {m n : Null} → term.Null m ≡ term.Null n → m ≡ n
    null_of e = cc

  -- which is none
  pub nulls_same : ((n : Null) → term_at words place ≡ term.Null n → ⊥) → new.listed.keys ≡ old.listed.keys → AreNulls words new
  nulls_same none keys = record {
    each = λ m h. let o = so_far.each m (subst (λ l. IsTrue (has_null l m)) keys h) in (o.0, has_more o.0 o.1, o.2);
    all = λ q m h at. elim (has_before q h) [
      | inl same ↦ absurd (none m (sym (ap (term_at words) same) ∙ at.null))
      | inr before ↦ subst (λ l. IsTrue (has_null l m)) (sym keys) (so_far.all q m before at)
    ];
  }

-- what a set has after a place was put in
pub put_here : (old new : BTreeSet ℕ) (place : ℕ) → Updates nat_cmp old new place true → has new place ≡ true
put_here old new place u = u.1

pub put_others : (old new : BTreeSet ℕ) (place : ℕ) → Updates nat_cmp old new place true → (q : ℕ) → q ≢ place → has new q ≡ has old q
put_others old new place u q ne = u.2 q (not_at place q ne)

-- an item of the first ones is an item
first_contains : (i : ℕ) (xs : List ℕ) (x : ℕ) → Contains (take i xs) x → Contains xs x
first_contains zero xs x h = absurd (no_item x h)
first_contains (suc i) [] x h = absurd (no_item x h)
first_contains (suc i) (y ∷ ys) x h = elim (item_cases (take i ys) y x h) [ inl e ↦ subst (Contains (y ∷ ys)) e (first_item ys y) | inr later ↦ later_item ys y x (first_contains i ys x later) ]

-- the nulls below conditions that come after their parts
pub below_noted : (words places : List ℕ) (nulls : Nulls) → IsWellFormed words → ArePartsFirst words places → ((e : ℕ) → Contains places e → HasTerms words e nulls) → AreNullsBelow words places nulls
below_noted words places nulls formed first noted p n h below =
    let at = term_below words (Contains places) formed (record { are = first.each; parts = λ q r i part. part_there q r i part }) p below.0 (term.Null n) below.1 h below.2 in
    noted at.0 at.1 below.0 at.2 n (ap as_term below.2) where
      part_there : (q r : ℕ) → Contains places q → Contains (parts_at words q) r → Contains places r
      part_there q r i part =
          let t = first.parts i.0 q r i.1 (subst (λ x. Contains (parts_at words x) r) (sym i.2) part) in
          first_contains i.0 places r t

pub noted_more : (words places : List ℕ) (i : ℕ) (old new : Nulls) → i < length places → KeepsNulls old new → ((e : ℕ) → Contains (take i places) e → HasTerms words e old) → HasTerms words (get_or places i 0) new
    → (e : ℕ) → Contains (take (i + 1) places) e → HasTerms words e new
noted_more words places i old new lt keeps before here e h = elim (Contains-push_cases (take i places) (get_or places i 0) e (subst (λ l. Contains l e) (take_more places i 0 lt) h)) [
  | inl there ↦ λ q among n is. keeps n (before e there q among n is)
  | inr same ↦ subst (λ x. HasTerms words x new) same here
]

-- those of one more condition stand below the conditions, too
pub only_more : (words places : List ℕ) (i : ℕ) (old new : Nulls) → i < length places → ((n : Null) → IsTrue (has_null old.listed.keys n) → IsNullBelow words places n)
    → AddsNulls (λ n. TermBelow words (get_or places i 0) (term.Null n)) old new → (n : Null) → IsTrue (has_null new.listed.keys n) → IsNullBelow words places n
only_more words places i old new lt before adds n h = elim (adds n h) [
  | inl there ↦ before n there
  | inr below ↦ record { root = get_or places i 0; among = Contains-get_or places i 0 lt; below = below }
]

-- a null was put in, or was there
pub key_added : (old new : Nulls) (n : Null) (P : Null → Type 0) → new.listed.keys ≡ insert_key same_null old.listed.keys n → P n → AddsNulls P old new
key_added old new n P keys is m h = elim (keyed_cases old.listed.keys n m (subst (λ l. IsTrue (has_null l m)) keys h)) [
  | inl there ↦ inl there
  | inr same ↦ inr (subst P (sym same) is)
]
