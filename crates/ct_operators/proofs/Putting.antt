-- What is put on a row for a condition, by what was put for its parts.
use Rattle.std.proofs.Common.{◌≡◌, ℕ, zero, suc, ◌+◌, ◌<◌, ◌≤◌, Bool, true, false, not, List, [], ◌∷◌, ◌++◌, length, take, drop, get_or, refl, ap, sym, subst, ◌∙◌, arith, inl, inr}
use Rattle.std.{specs.Prelude.{IsTrue, All, Contains, ◌⊎◌}, proofs.lemmas.Bool.cases_lt, proofs.lemmas.List.{get_or_default, get_or-take, length-take, take_all, drop_all, append-nil}}
use Rattle.std.proofs.lemmas.List.Elements.{All-weaker, All-contains, Contains-get_or}
use Rattle.ct_word.{specs.declared.values.Value.Value, specs.declared.values.Term.Term, specs.declared.connectives.Connective.Connective}
use Rattle.ct_word.{specs.Value.{World, tuple_at}, specs.Condition.holds, specs.Connective.{join}, specs.Stands.{TermBelow, through}}
use Rattle.ct_word.{specs.WellFormed.{IsWellFormed, is_place_of}, specs.Reading.condition_at, proofs.Joins.joined_holds, proofs.Items.{first_item, later_item, no_item}}
use Rattle.ct_word.proofs.Prefixes.{place_within, place_in_prefix, condition_in_prefix, get_in_prefix}
use Rattle.ct_query.specs.Bounds.{ops}
use Rattle.ct_condition.{specs.Terms.{TermsFrom, BelowEither}, specs.Truth.{HasTruth, not_at, join_at}, proofs.Reached.terms_after}
use Rattle.ct_worlds.{specs.declared.shape.Shape.Shape, specs.Shape.{shape_at, shape_of_word, parts_of, parts_at, terms_of, literal, IsShaped}, specs.Truths.AreRising}
use Rattle.ct_worlds.proofs.Shaped.{shaped, Names, part_named, term_named, IsClosed, term_below}
use Rattle.ct_operators.{specs.Terms.IsPlaced, specs.Building.HoldsWhere, specs.Placing.{tuple_of, holds_for, equal_for, IsPut, ArePut, IsPutFor, step_of, steps, ArePartsOf}}
use Rattle.ct_operators.{proofs.Growing.terms_grow, proofs.Holding.{holds_as, holds_later, holds_not}, proofs.Reaching.{below_before, some_below_before, from_two, from_later}}
use mathlib.Core.List.{IsPrefix}
use Rattle.ct_word.specs.declared.kinds.Class.TheVariants as class
use Rattle.ct_worlds.specs.declared.shape.Shape.TheVariants as shape

-- terms below what is placed for a part, said of the whole
pub placed_up : (old : List ℕ) (c cond : ℕ) (cells : List ℕ) → ((u : Term) → TermBelow old c u → TermBelow old cond u) → (u : Term) → IsPlaced old c cells u → IsPlaced old cond cells u
placed_up old c cond cells up u (inl b) = inl b
placed_up old c cond cells up u (inr x) = inr (up u x.0, x.1)

-- and of the words before
pub placed_before : (old now : List ℕ) → IsPrefix old now → IsWellFormed old → (c : ℕ) (cells : List ℕ) → IsTrue (is_place_of old class.Cond c) → All (λ p. IsTrue (is_place_of old class.Term p)) cells
    → (u : Term) → IsPlaced now c cells u → IsPlaced old c cells u
placed_before old now grown formed c cells e terms u (inl b) =
    inl (some_below_before old now grown formed cells u (All-weaker (λ p. IsTrue (is_place_of old class.Term p)) (λ p. p < length old) (λ p. place_within old class.Term p) cells terms) b)
placed_before old now grown formed c cells e terms u (inr x) = inr (below_before old now grown formed c u (place_within old class.Cond c e) x.0, x.1)

-- what a condition is for a tuple, as words are added
pub holds_for_grows : (old now : List ℕ) (c : ℕ) (cells : List ℕ) (v : World) → IsPrefix old now → IsTrue (is_place_of old class.Cond c)
    → All (λ p. IsTrue (is_place_of old class.Term p)) cells → holds_for now c cells v ≡ holds_for old c cells v
holds_for_grows old now c cells v grown e terms =
    λ i. holds v (tuple_at v (terms_grow old now grown cells terms i)) (condition_in_prefix old now c grown (place_within old class.Cond c e) i)

-- and of the words afterwards
placed_after : (old now : List ℕ) → IsPrefix old now → IsWellFormed old → (c : ℕ) (cells : List ℕ) → IsTrue (is_place_of old class.Cond c) → All (λ p. IsTrue (is_place_of old class.Term p)) cells
    → (u : Term) → IsPlaced old c cells u → IsPlaced now c cells u
placed_after old now grown formed c cells e terms u (inl b) =
    inl (record {
      place = b.place;
      among = b.among;
      below = terms_after old now grown formed b.place u (place_within old class.Term b.place (All-contains (λ p. IsTrue (is_place_of old class.Term p)) cells b.place terms b.among)) b.below;
    })
placed_after old now grown formed c cells e terms u (inr x) = inr (terms_after old now grown formed c u (place_within old class.Cond c e) x.0, x.1)

module _ (old now : List ℕ) (grown : IsPrefix old now) (formed : IsWellFormed old) (cells : List ℕ) (terms : All (λ p. IsTrue (is_place_of old class.Term p)) cells) (c : ℕ) (e : IsTrue (is_place_of old class.Cond c)) where
  -- what was put for a condition of the first words is put for it
  pub put_now : (p : ℕ) → HoldsWhere now p (holds_for old c cells) → TermsFrom now p (IsPlaced old c cells) → IsPut now cells c p
  put_now p holds from = record {
    holds = holds_as now p _ _ (λ v. sym (holds_for_grows old now c cells v grown e terms)) holds;
    terms = λ u h. placed_after old now grown formed c cells e terms u (from u h);
  }

  -- and stays so
  pub put_later : (p : ℕ) → IsPut old cells c p → IsPut now cells c p
  put_later p put =
      put_now p (holds_later old now p _ grown put.holds) (from_later old now grown formed p (IsPlaced old c cells) (place_within old class.Cond p put.holds.class) put.terms)

  -- and is what was asked for
  pub put_before : (p : ℕ) → IsPut now cells c p → HoldsWhere now p (holds_for old c cells) × TermsFrom now p (IsPlaced old c cells)
  put_before p put = (
    holds_as now p _ _ (λ v. holds_for_grows old now c cells v grown e terms) put.holds,
    λ u h. placed_before old now grown formed c cells e terms u (put.terms u h),
  )

-- a term below what a condition names stands below the condition
named_up : (ws : List ℕ) (p q : ℕ) (u : Term) → Names ws p q → TermBelow ws q u → TermBelow ws p u
named_up ws p q u named b = (b.0, through named.word q named.there named.among b.1, b.2)

part_up : (ws : List ℕ) (p q : ℕ) → Contains (parts_at ws p) q → (u : Term) → TermBelow ws q u → TermBelow ws p u
part_up ws p q h u = named_up ws p q u (part_named ws p q h)

term_up : (ws : List ℕ) (p q : ℕ) → Contains (terms_of (shape_at ws p)) q → (u : Term) → TermBelow ws q u → TermBelow ws p u
term_up ws p q h u = named_up ws p q u (term_named ws p q h)

literal_everywhere : (v : World) (row : List Value) (b : Bool) → holds v [] (literal b) ≡ holds v row (literal b)
literal_everywhere v row true = refl
literal_everywhere v row false = refl

module _ (words : List ℕ) (cond : ℕ) (cells : List ℕ) (formed : IsWellFormed words) (e : IsTrue (is_place_of words class.Cond cond)) where
  -- a literal stays as it is
  pub literal_put : (b : Bool) → shape_at words cond ≡ shape.Literal b → IsPut words cells cond cond
  literal_put b is = record {
    holds = record { class = e; holds = λ v. ap (holds v []) same ∙ literal_everywhere v (tuple_of words cells v) b ∙ sym (ap (holds v (tuple_of words cells v)) same) };
    terms = λ u h. absurd (none u h);
  } where
    same : condition_at words cond ≡ literal b
    same = (subst (IsShaped words cond) is (shaped words cond formed e)).condition

    closed : IsClosed words (λ q. q ≡ cond)
    closed = record {
      are = λ q h. subst (λ p. IsTrue (is_place_of words class.Cond p)) (sym h) e;
      parts = λ q r h part. absurd (no_item r (subst (λ s. Contains (parts_of s) r) is (subst (λ p. Contains (parts_at words p) r) h part)));
    }

    none : (u : Term) → TermBelow words cond u → ⊥
    none u h =
        let t = term_below words (λ q. q ≡ cond) formed closed cond h.0 u h.1 refl h.2 in
        no_item h.0 (subst (λ s. Contains (terms_of s) h.0) is (subst (λ p. Contains (terms_of (shape_at words p)) h.0) t.1 t.2))

  -- what the condition says
  shape_is : {s : Shape} → shape_at words cond ≡ s → IsShaped words cond s
  shape_is is = subst (IsShaped words cond) is (shaped words cond formed e)

  part_of : {s : Shape} (q : ℕ) → shape_at words cond ≡ s → Contains (parts_of s) q → (u : Term) → IsPlaced words q cells u → IsPlaced words cond cells u
  part_of q is h = placed_up words q cond cells (part_up words cond q (subst (λ x. Contains (parts_of x) q) (sym is) h))

  term_of : {s : Shape} (q : ℕ) → shape_at words cond ≡ s → Contains (terms_of s) q → (u : Term) → IsPlaced words q cells u → IsPlaced words cond cells u
  term_of q is h = placed_up words q cond cells (term_up words cond q (subst (λ x. Contains (terms_of x) q) (sym is) h))

  -- an equality holds where its terms are worth the same on the row
  pub equal_holds : (new : List ℕ) (place s t : ℕ) → shape_at words cond ≡ shape.Equal s t → HoldsWhere new place (equal_for words s t cells) → HoldsWhere new place (holds_for words cond cells)
  equal_holds new place s t is = holds_as new place _ _ (λ v. sym (ap (holds v (tuple_of words cells v)) (shape_is is).condition))

  pub equal_terms : (new : List ℕ) (place s t : ℕ) → shape_at words cond ≡ shape.Equal s t → TermsFrom new place (λ u. IsPlaced words s cells u ⊎ IsPlaced words t cells u)
      → TermsFrom new place (IsPlaced words cond cells)
  equal_terms new place s t is from u h = elim (from u h) [
    | inl x ↦ term_of s is (first_item (t ∷ []) s) u x
    | inr x ↦ term_of t is (later_item (t ∷ []) s t (first_item [] t)) u x
  ]

  -- a NOT where its part does not
  pub not_holds : (new : List ℕ) (place c p : ℕ) → shape_at words cond ≡ shape.Not c → IsPut words cells c p → HasTruth new place (not_at words p) → HoldsWhere new place (holds_for words cond cells)
  not_holds new place c p is put truth =
      holds_as new place (λ v. not (holds_for words c cells v)) (holds_for words cond cells) (λ v. sym (ap (holds v (tuple_of words cells v)) (shape_is is).condition))
      (holds_not words new p place _ put.holds truth)

  pub not_terms : (new : List ℕ) (place c p : ℕ) → shape_at words cond ≡ shape.Not c → IsPut words cells c p → TermsFrom new place (TermBelow words p) → TermsFrom new place (IsPlaced words cond cells)
  not_terms new place c p is put from u h = part_of c is (first_item [] c) u (put.terms u (from u h))

  -- and two conditions joined by what both are
  pub join_holds : (new : List ℕ) (place : ℕ) (j : Connective) (c d p q : ℕ) → shape_at words cond ≡ shape.Joined j c d → IsPut words cells c p → IsPut words cells d q
      → HasTruth new place (join_at j words p q) → HoldsWhere new place (holds_for words cond cells)
  join_holds new place j c d p q is one other truth = record {
    class = truth.class;
    holds = λ v.
        truth.truth_is v []
        ∙ (λ i. join j (one.holds.holds v i) (other.holds.holds v i))
        ∙ sym (ap (holds v (tuple_of words cells v)) (shape_is is).condition ∙ joined_holds j v (tuple_of words cells v) (condition_at words c) (condition_at words d));
  }

  pub join_terms : (new : List ℕ) (place : ℕ) (j : Connective) (c d p q : ℕ) → shape_at words cond ≡ shape.Joined j c d → IsPut words cells c p → IsPut words cells d q
      → TermsFrom new place (BelowEither words p q) → TermsFrom new place (IsPlaced words cond cells)
  join_terms new place j c d p q is one other =
      from_two words new p q place (IsPlaced words cond cells) (λ u h. part_of c is (first_item (d ∷ []) c) u (one.terms u h))
      (λ u h. part_of d is (later_item (d ∷ []) c d (first_item [] d)) u (other.terms u h))

-- a shape that was read
pub read_as : {words now : List ℕ} (cond : ℕ) {read s : Shape} → read ≡ shape_at words cond → words ≡ now → read ≡ s → shape_at now cond ≡ s
read_as cond a b is = sym (a ∙ ap (λ ws. shape_at ws cond) b) ∙ is

-- what stands beside a part is what was put for it
pub put_is : (words cells places put : List ℕ) (of : ℕ → Type 0) (part result : ℕ) → ArePut words cells of places put → of part → IsPutFor places put part result → IsPut words cells part result
put_is words cells places put of part result are h beside =
    subst (λ q. IsPut words cells q result) beside.is
    (subst (λ r. IsPut words cells (get_or places beside.at 0) r) beside.beside (are beside.at beside.within (subst of (sym beside.is) h)))

-- words that stand already say the same, as words are added
pub shape_later : (old now : List ℕ) (p : ℕ) → IsPrefix old now → p < length old → shape_at now p ≡ shape_at old p
shape_later old now p grown lt = ap shape_of_word (get_in_prefix old now p grown lt)

steps_later : (old now : List ℕ) (ps : List ℕ) → IsPrefix old now → ((p : ℕ) → Contains ps p → p < length old) → steps now ps ≡ steps old ps
unfolding steps
steps_later old now [] grown within = refl
steps_later old now (p ∷ ps) grown within =
    let one = ap step_of (shape_later old now p grown (within p (first_item ps p))) in
    let rest = steps_later old now ps grown (λ q h. within q (later_item ps p q h)) in
    omega (arith, one, rest)

pub parts_later : (old now : List ℕ) (cond : ℕ) (places : List ℕ) → IsPrefix old now → IsTrue (is_place_of old class.Cond cond) → ArePartsOf old cond places → ArePartsOf now cond places
parts_later old now cond places grown e are = record {
  first = record {
    rising = are.first.rising;
    each = λ p h. place_in_prefix old now class.Cond p grown (are.first.each p h);
    parts = λ i d q lt h.
        are.first.parts i d q lt
        (subst (λ s. Contains (parts_of s) q) (shape_later old now (get_or places i d) grown (place_within old class.Cond (get_or places i d) (are.first.each (get_or places i d) (Contains-get_or places i d lt)))) h);
  };
  among = are.among;
  short =
      omega (arith, steps_later old now places grown (λ p h. place_within old class.Cond p (are.first.each p h)), ap ops (condition_in_prefix old now cond grown (place_within old class.Cond cond e)), are.short);
}

-- of rising places one among the first so many has a lower number
pub number_before : (places : List ℕ) (n i : ℕ) → AreRising places → i < length places → Contains (take n places) (get_or places i 0) → i < n
number_before places n i up lt h =
    let k = h.0 in
    let under : k < n = omega (arith, h.1, length-take n places) in
    let within : k < length places = omega (arith, h.1, length-take n places) in
    let same : get_or places k 0 ≡ get_or places i 0 = get_or_default places k 0 (get_or places i 0) within ∙ sym (get_or-take n places k (get_or places i 0) under) ∙ h.2 in
    elim (cases_lt i n) [ inl less ↦ less | inr more ↦ let over = up k i 0 (omega (arith, under, more)) lt in absurd (omega (arith, over, same)) ]

-- the first of some places are among them, and each of a lower number among the first
pub of_first : (places : List ℕ) (n q : ℕ) → Contains (take n places) q → Contains places q
of_first places n q h = let lt = length-take n places in (h.0, omega (arith, h.1, lt), sym (get_or-take n places h.0 q (omega (arith, h.1, lt))) ∙ h.2)

pub among_first : (places : List ℕ) (n i : ℕ) → i < n → i < length places → Contains (take n places) (get_or places i 0)
among_first places n i lt within = (i, omega (arith, length-take n places, lt, within), get_or-take n places i (get_or places i 0) lt ∙ get_or_default places i (get_or places i 0) 0 within)

-- one more place has its word
pub steps_more : (words : List ℕ) (ps : List ℕ) (p : ℕ) → steps words (ps ++ p ∷ []) ≡ steps words ps + step_of (shape_at words p)
unfolding steps
steps_more words [] p = omega arith
steps_more words (q ∷ ps) p = let rest = steps_more words ps p in omega (arith, rest)

-- and the first of them no more than all
pub steps_within : (words : List ℕ) (ps : List ℕ) (n : ℕ) → steps words (take n ps) ≤ steps words ps
unfolding steps
steps_within words [] zero = omega arith
steps_within words [] (suc n) = omega arith
steps_within words (p ∷ ps) zero = omega arith
steps_within words (p ∷ ps) (suc n) = let rest = steps_within words ps n in omega (arith, rest)

-- a list keeps its length where a slice of all its items was written to
pub written_back : (n : ℕ) (new old : List ℕ) → length new ≡ length old → n ≡ length old → length (take n (new ++ drop (length new) old)) ≡ length old
written_back n new old e is =
    ap (λ (l : List ℕ). length l) (ap (λ l. take n (new ++ l)) (drop_all (length new) old (omega (arith, e))) ∙ ap (take n) (append-nil new) ∙ take_all n new (omega (arith, e, is))) ∙ e
