-- The nulls below a row and the global condition, and worlds cut to them.
use Rattle.std.proofs.Common.{◌≡◌, ◌≤◌, ◌<◌, ◌+◌, ℕ, Bool, true, false, ◌||◌, List, [], ◌∷◌, ◌++◌, length, take, get_or, Option, Some, refl, ap, sym, subst, ◌∙◌, arith, inl, inr, if◌then◌else◌}
use Rattle.std.{specs.Prelude.{◌⊎◌, All, IsTrue, slice_get, nat_eq}, specs.List.{Contains, list_any}, proofs.lemmas.Bool.{cases_lt, eqb-true, false≢true}}
use Rattle.std.{proofs.lemmas.List.{get_or_append_left, get_or_default, take_more}, proofs.lemmas.List.Folds.list_any-append}
use Rattle.std.proofs.lemmas.List.Elements.{All-append, All-cons, All-contains, All-contains_itself, All-get_or, All-nil, All-push, All-weaker, Contains-append_left, Contains-append_right, Contains-push, Contains-push_cases}
use Rattle.std.proofs.lemmas.Option.{slice_get-get_or, slice_get_within}
use Rattle.indexmap.{specs.IndexSet.insert_key, proofs.CallerLemmas.Contains-list_any}
use Rattle.ct_word.{specs.declared.kinds.Kind.Kind, specs.declared.values.Null.Null, specs.declared.values.Term.Term, specs.Word.{kind_of, left_of, right_of}}
use Rattle.ct_word.{specs.Value.same_null, specs.WellFormed.{IsWellFormed, has_class, is_word_of}, specs.Reading.{IsTerm, as_term, term_at}}
use Rattle.ct_word.{specs.Stands.{Below, itself, through, StandsAt, places_in, places_of}, proofs.Alike.null_decides}
use Rattle.ct_word.{proofs.Items.{no_item, sole_item, item_cases}, proofs.Places.{stands_term, stands_condition}, proofs.Splits.{place_within, some-injective}}
use Rattle.ct_word.proofs.Prefixes.{prefix_of_prefix, prefix_same}
use Rattle.ct_condition.specs.Terms.{BelowSome}
use Rattle.ct_worlds.{specs.Shape.{shape_of, shape_of_word, IsShaped}, proofs.Shaped.shaped}
use Rattle.ct_operators.proofs.Reaching.{term_alone}
use Rattle.ct_rewrite.proofs.Nodes.{term_compared}
use Rattle.ct_tidy.specs.Nulls.{IsPart, names_left, names_right, parts_in, parts_of, ArePut, IsReached, AreGathered, has_null, with_term, AreNullsOf, IsTermAtSome}
use mathlib.Core.List.{IsPrefix}
use Rattle.ct_word.specs.declared.kinds.Kind.TheVariants as kind
use Rattle.ct_word.specs.declared.kinds.Class.TheVariants as class
use Rattle.ct_word.specs.declared.values.Term.TheVariants as term
use Rattle.ct_word.specs.contracts.values.NullPartialEq.TheImpl as null_code

contains_longer : {X : Type 0} (xs ys : List X) (x : X) → IsPrefix xs ys → Contains xs x → Contains ys x
contains_longer xs ys x p h = subst (λ l. Contains l x) p.1 (Contains-append_left xs p.0 x h)

-- the part at a place of a list
pub at_place : (ws places : List ℕ) (k p : ℕ) → slice_get places k ≡ Some p → All (IsPart ws) places → IsPart ws p
at_place ws places k p stands each =
    let lt = slice_get_within places k p stands in
    subst (IsPart ws) (some-injective (get_or places k 0) p (sym (slice_get-get_or places k 0 lt) ∙ stands)) (All-get_or (IsPart ws) places k 0 lt each)

-- places put into a set
pub put_none : (old : List ℕ) → ArePut old [] old
put_none old = record {
  grown = prefix_same old;
  put = All-nil (Contains old);
  only = All-weaker (Contains old) (λ p. Contains old p ⊎ Contains [] p) (λ p h. inl h) old (All-contains_itself old);
}

pub put_one : (old : List ℕ) (p : ℕ) (new : List ℕ) → new ≡ insert_key nat_eq old p → ArePut old (p ∷ []) new
put_one old p new e = subst (ArePut old (p ∷ [])) (sym e) (by (list_any (nat_eq p) old) refl) where
  by : (b : Bool) → list_any (nat_eq p) old ≡ b → ArePut old (p ∷ []) (if b then old else old ++ p ∷ [])
  by true there = record {
    grown = prefix_same old;
    put = All-cons (Contains old) p [] (Contains-list_any nat_eq eqb-true old p there) (All-nil (Contains old));
    only = All-weaker (Contains old) (λ q. Contains old q ⊎ Contains (p ∷ []) q) (λ q h. inl h) old (All-contains_itself old);
  }
  by false new_one = record {
    grown = (p ∷ [], refl);
    put = All-cons (Contains (old ++ p ∷ [])) p [] (Contains-push old p) (All-nil (Contains (old ++ p ∷ [])));
    only = All-push (λ q. Contains old q ⊎ Contains (p ∷ []) q) old p (All-weaker (Contains old) (λ q. Contains old q ⊎ Contains (p ∷ []) q) (λ q h. inl h) old (All-contains_itself old)) (inr (Contains-push [] p));
  }

either_among : (as' bs : List ℕ) (q : ℕ) → Contains as' q ⊎ Contains bs q → Contains (as' ++ bs) q
either_among as' bs q (inl h) = Contains-append_left as' bs q h
either_among as' bs q (inr h) = Contains-append_right as' bs q h

pub put_more : (old as' mid bs new : List ℕ) → ArePut old as' mid → ArePut mid bs new → ArePut old (as' ++ bs) new
put_more old as' mid bs new first next = record {
  grown = prefix_of_prefix old mid new first.grown next.grown;
  put = All-append (Contains new) as' bs (All-weaker (Contains mid) (Contains new) (λ p. contains_longer mid new p next.grown) as' first.put) next.put;
  only = All-weaker (λ p. Contains mid p ⊎ Contains bs p) (λ p. Contains old p ⊎ Contains (as' ++ bs) p) over new next.only;
} where
  over : (p : ℕ) → Contains mid p ⊎ Contains bs p → Contains old p ⊎ Contains (as' ++ bs) p
  over p (inr b) = inr (either_among as' bs p (inr b))
  over p (inl m) = elim (All-contains (λ q. Contains old q ⊎ Contains as' q) mid p first.only m) [ inl o ↦ inl o | inr a ↦ inr (either_among as' bs p (inl a)) ]

-- one more cell
pub put_turn : (old cells : List ℕ) (cond i : ℕ) (mid new : List ℕ) → i < length cells → ArePut old (cond ∷ take i cells) mid → new ≡ insert_key nat_eq mid (get_or cells i 0) → ArePut old (cond ∷ take (i + 1) cells) new
put_turn old cells cond i mid new lt so_far put =
    subst (λ l. ArePut old (cond ∷ l) new) (sym (take_more cells i 0 lt)) (put_more old (cond ∷ take i cells) mid (get_or cells i 0 ∷ []) new so_far (put_one mid (get_or cells i 0) new put))

-- the parts of a word, by its kind
module _ (w : ℕ) (k : Kind) (is : kind_of w ≡ Some k) where
  pub no_parts : names_left k ≡ false → parts_of w ≡ []
  no_parts l = ap (λ o. parts_in o (left_of w) (right_of w)) is ∙ ap (λ b. if b then left_of w ∷ (if names_right k then right_of w ∷ [] else []) else []) l

  pub left_part : names_left k ≡ true → names_right k ≡ false → parts_of w ≡ left_of w ∷ []
  left_part l r = ap (λ o. parts_in o (left_of w) (right_of w)) is ∙ (λ i. if l i then left_of w ∷ (if r i then right_of w ∷ [] else []) else [])

  pub both_parts : names_left k ≡ true → names_right k ≡ true → parts_of w ≡ left_of w ∷ right_of w ∷ []
  both_parts l r = ap (λ o. parts_in o (left_of w) (right_of w)) is ∙ (λ i. if l i then left_of w ∷ (if r i then right_of w ∷ [] else []) else [])

pub below_more : (ws : List ℕ) (p q r w : ℕ) → Below ws p q → slice_get ws q ≡ Some w → Contains (places_of w) r → Below ws p r
below_more ws p q r w itself at h = through w r at h itself
below_more ws p q r w (through v m first_at among rest) at h = through v m first_at among (below_more ws m q r w rest at h)

-- what a word of a condition names, its fields name
pub parts_named : (w q : ℕ) → Contains (parts_of w) q → Contains (places_of w) q
unfolding places_of
parts_named w q h = by (kind_of w) h where
  by : (o : Option Kind) → Contains (parts_in o (left_of w) (right_of w)) q → Contains (places_in o (left_of w) (right_of w)) q
  by (Some kind.Not) h = h
  by (Some kind.Equal) h = h
  by (Some kind.And) h = h
  by (Some kind.Or) h = h
  by _ h = absurd (no_item q h)

-- and the other way round
named_parts : (w q : ℕ) → has_class (kind_of w) class.Cond ≡ true → Contains (places_of w) q → Contains (parts_of w) q
unfolding places_of
named_parts w q c h = by (kind_of w) c h where
  by : (o : Option Kind) → has_class o class.Cond ≡ true → Contains (places_in o (left_of w) (right_of w)) q → Contains (parts_in o (left_of w) (right_of w)) q
  by (Some kind.True) c h = h
  by (Some kind.False) c h = h
  by (Some kind.Not) c h = h
  by (Some kind.Equal) c h = h
  by (Some kind.And) c h = h
  by (Some kind.Or) c h = h
  by _ c h = absurd (false≢true c)

module _ (ws : List ℕ) (formed : IsWellFormed ws) where
  two_of : (a b q : ℕ) → IsPart ws a → IsPart ws b → Contains (a ∷ b ∷ []) q → IsPart ws q
  two_of a b q left right h = elim (item_cases (b ∷ []) a q h) [ inl e ↦ subst (IsPart ws) e left | inr i ↦ subst (IsPart ws) (sole_item b q i) right ]

  pub part_within : (p : ℕ) → IsPart ws p → p < length ws
  part_within p (inl c) = place_within ws class.Cond p c
  part_within p (inr t) = place_within ws class.Term p t

  -- what the word of a condition names is a condition or a term
  pub part_is : (p w q : ℕ) → slice_get ws p ≡ Some w → IsPart ws p → Contains (parts_of w) q → IsPart ws q
  part_is p w q there (inl c) h = by (kind_of w) (subst (λ o. IsShaped ws p (shape_of_word o)) there (shaped ws p formed c)) h where
    by : (o : Option Kind) → IsShaped ws p (shape_of o (left_of w) (right_of w)) → Contains (parts_in o (left_of w) (right_of w)) q → IsPart ws q
    by (Some kind.Not) are h = subst (IsPart ws) (sole_item (left_of w) q h) (inl are.parts.0.placed)
    by (Some kind.Equal) are h = two_of (left_of w) (right_of w) q (inr are.terms.0) (inr are.terms.1.0) h
    by (Some kind.And) are h = two_of (left_of w) (right_of w) q (inl are.parts.0.placed) (inl are.parts.1.0.placed) h
    by (Some kind.Or) are h = two_of (left_of w) (right_of w) q (inl are.parts.0.placed) (inl are.parts.1.0.placed) h
    by _ are h = absurd (no_item q h)
  part_is p w q there (inr t) h = by (kind_of w) (sym (ap (λ o. is_word_of o class.Term) there) ∙ t) h where
    by : (o : Option Kind) → has_class o class.Term ≡ true → Contains (parts_in o (left_of w) (right_of w)) q → IsPart ws q
    by (Some kind.Not) c h = absurd (false≢true c)
    by (Some kind.Equal) c h = absurd (false≢true c)
    by (Some kind.And) c h = absurd (false≢true c)
    by (Some kind.Or) c h = absurd (false≢true c)
    by _ c h = absurd (no_item q h)

  -- the places that a walk begins with
  pub gathered_first : (roots places : List ℕ) → All (IsPart ws) roots → ArePut [] roots places → AreGathered ws roots 0 places
  gathered_first roots places parts put = record {
    each = All-weaker (λ p. Contains [] p ⊎ Contains roots p) (IsPart ws) (λ p h. All-contains (IsPart ws) roots p parts (root p h)) places put.only;
    reached = All-weaker (λ p. Contains [] p ⊎ Contains roots p) (IsReached ws roots) (λ p h. (p, root p h, itself)) places put.only;
    begun = put.put;
    closed = λ k w q lt at h. absurd (omega (arith, lt));
  } where
    root : (p : ℕ) → Contains [] p ⊎ Contains roots p → Contains roots p
    root p (inl n) = absurd (no_item p n)
    root p (inr h) = h

  -- one more place of the walk
  pub gathered_turn : (roots : List ℕ) (k p w : ℕ) (old new : List ℕ) → slice_get old k ≡ Some p → slice_get ws p ≡ Some w → ArePut old (parts_of w) new → AreGathered ws roots k old → AreGathered ws roots (k + 1) new
  gathered_turn roots k p w old new stands there put g = record {
    each = All-weaker Either (IsPart ws) (λ q h. of_each q h) new put.only;
    reached = All-weaker Either (IsReached ws roots) (λ q h. of_reached q h) new put.only;
    begun = All-weaker (Contains old) (Contains new) (λ q. contains_longer old new q put.grown) roots g.begun;
    closed = λ j v q less at h. by_place j v q less at h;
  } where
    Either : ℕ → Type 0
    Either q = Contains old q ⊎ Contains (parts_of w) q

    lt : k < length old
    lt = slice_get_within old k p stands

    e : p ≡ get_or old k 0
    e = some-injective p (get_or old k 0) (sym stands ∙ slice_get-get_or old k 0 lt)

    here : Contains old p
    here = (k, lt, get_or_default old k p 0 lt ∙ sym e)

    of_each : (q : ℕ) → Either q → IsPart ws q
    of_each q (inl o) = All-contains (IsPart ws) old q g.each o
    of_each q (inr h) = part_is p w q there (All-contains (IsPart ws) old p g.each here) h

    of_reached : (q : ℕ) → Either q → IsReached ws roots q
    of_reached q (inl o) = All-contains (IsReached ws roots) old q g.reached o
    of_reached q (inr h) = let r = All-contains (IsReached ws roots) old p g.reached here in (r.0, r.1, below_more ws r.0 p q w r.2 there (parts_named w q h))

    same_place : (j : ℕ) → j < length old → get_or new j 0 ≡ get_or old j 0
    same_place j less = sym (ap (λ l. get_or l j 0) put.grown.1) ∙ get_or_append_left old put.grown.0 0 j less

    by_place : (j v q : ℕ) → j < k + 1 → slice_get ws (get_or new j 0) ≡ Some v → Contains (parts_of v) q → Contains new q
    by_place j v q less at h = elim (cases_lt j k) [
      | inl before ↦
          contains_longer old new q put.grown (g.closed j v q before (ap (slice_get ws) (sym (same_place j (omega (arith, before, lt)))) ∙ at) h)
      | inr not_before ↦
          let same : j ≡ k = omega (arith, less, not_before) in
          let one : get_or new j 0 ≡ p = same_place j (omega (arith, same, lt)) ∙ ap (λ i. get_or old i 0) same ∙ sym e in
          let word = some-injective v w (sym at ∙ ap (slice_get ws) one ∙ there) in
          All-contains (Contains new) (parts_of w) q put.put (subst (λ x. Contains (parts_of x) q) word h)
    ]

  pub gathered_all : (roots : List ℕ) (k : ℕ) (places : List ℕ) → length places ≤ k → AreGathered ws roots k places → AreGathered ws roots (length places) places
  gathered_all roots k places le g = record { each = g.each; reached = g.reached; begun = g.begun; closed = λ j w q lt at h. g.closed j w q (omega (arith, lt, le)) at h }

  -- each term below one of some parts, with which their own parts are, stands at one of them
  module _ (Reached : ℕ → Type 0) (each : (p : ℕ) → Reached p → IsPart ws p) (closed : (p w q : ℕ) → Reached p → slice_get ws p ≡ Some w → Contains (parts_of w) q → Reached q) where
    pub reach : (p r : ℕ) (t : Term) → Reached p → Below ws p r → StandsAt ws r (IsTerm t) → (q : ℕ) × Reached q × StandsAt ws q (IsTerm t)
    reach p r t here itself s = (p, here, s)
    reach p r t here (through w q at among rest) s = elim (each p here) [
      | inl c ↦ reach q r t (closed p w q here at (named_parts w q (sym (ap (λ o. is_word_of o class.Cond) at) ∙ c) among)) rest s
      | inr e ↦ (p, here, subst (λ u. StandsAt ws p (IsTerm u)) (sym (term_alone ws formed p t e (r, through w q at among rest, s))) (stands_term ws p e))
    ]

  -- so does each one below the places that a walk began with
  module _ (roots places : List ℕ) (g : AreGathered ws roots (length places) places) where
    named : (p w q : ℕ) → Contains places p → slice_get ws p ≡ Some w → Contains (parts_of w) q → Contains places q
    named p w q here at h =
        let is : get_or places here.0 0 ≡ p = get_or_default places here.0 0 p here.1 ∙ here.2 in
        g.closed here.0 w q here.1 (ap (slice_get ws) is ∙ at) h

    pub nulls_gathered : (ns : List Null) → AreNullsOf (IsTermAtSome ws places) ns → AreNullsOf (BelowSome ws roots) ns
    nulls_gathered ns are = record {
      each = All-weaker (λ n. IsTermAtSome ws places (term.Null n)) (λ n. BelowSome ws roots (term.Null n)) (λ n h. below n h) ns are.each;
      all = λ n b. are.all n (reach (Contains places) (λ p h. All-contains (IsPart ws) places p g.each h) named b.place b.below.0 (term.Null n) (All-contains (Contains places) roots b.place g.begun b.among) b.below.1 b.below.2);
    } where
      below : (n : Null) → IsTermAtSome ws places (term.Null n) → BelowSome ws roots (term.Null n)
      below n h = let r = All-contains (IsReached ws roots) places h.0 g.reached h.1 in record { place = r.0; among = r.1; below = (h.0, r.2, h.2) }

-- the code compares nulls as the definition does
null_compared : (m n : Null) → null_code.ghosts.eq m n ≡ same_null m n
null_compared m n = term_compared (term.Null m) (term.Null n)

pub compared : null_code.ghosts.eq ≡ same_null
compared i m n = null_compared m n i

pub null_there : (ns : List Null) (n : Null) → list_any (same_null n) (ns ++ n ∷ []) ≡ true
null_there ns n = list_any-append (same_null n) ns (n ∷ []) ∙ (λ i. list_any (same_null n) ns || ((null_decides n n).1 refl i || false)) ∙ last (list_any (same_null n) ns) where
  last : (b : Bool) → (b || true) ≡ true
  last true = refl
  last false = refl

-- a null put into a set
keyed : (ns : List Null) (n m : Null) → IsTrue (has_null ns m) → IsTrue (has_null (insert_key same_null ns n) m)
keyed ns n m h = by (list_any (same_null n) ns) where
  by : (b : Bool) → IsTrue (has_null (if b then ns else ns ++ n ∷ []) m)
  by true = h
  by false = list_any-append (same_null m) ns (n ∷ []) ∙ ap (λ b. b || (same_null m n || false)) h

keyed_itself : (ns : List Null) (n : Null) → IsTrue (has_null (insert_key same_null ns n) n)
keyed_itself ns n = by (list_any (same_null n) ns) refl where
  by : (b : Bool) → list_any (same_null n) ns ≡ b → IsTrue (has_null (if b then ns else ns ++ n ∷ []) n)
  by true e = e
  by false e = null_there ns n

keyed_all : (P : Null → Type 0) (ns : List Null) (n : Null) → P n → All P ns → All P (insert_key same_null ns n)
keyed_all P ns n p all = by (list_any (same_null n) ns) where
  by : (b : Bool) → All P (if b then ns else ns ++ n ∷ [])
  by true = all
  by false = All-push P ns n all p

module _ (ws : List ℕ) where
  pub stands_null : (p : ℕ) (n : Null) → IsPart ws p → term_at ws p ≡ term.Null n → StandsAt ws p (IsTerm (term.Null n))
  stands_null p n (inr e) is = subst (λ t. StandsAt ws p (IsTerm t)) is (stands_term ws p e)
  stands_null p n (inl c) is = let value : term_at ws p ≡ _ = ap as_term (stands_condition ws p c) in absurd (no_value (sym value ∙ is)) where
    is_null : Term → Bool
    is_null (term.Null m) = true
    is_null _ = false

    no_value : {x : _} → term.Value x ≡ term.Null n → ⊥
    no_value e = false≢true (ap is_null e)

  -- the null of one more place, if there is one
  pub nulls_more : (done : List ℕ) (p : ℕ) (old new : List Null) → IsPart ws p → new ≡ with_term (term_at ws p) old → AreNullsOf (IsTermAtSome ws done) old → AreNullsOf (IsTermAtSome ws (done ++ p ∷ [])) new
  nulls_more done p old new part e are = subst (AreNullsOf (IsTermAtSome ws (done ++ p ∷ []))) (sym e) (by (term_at ws p) refl) where
    still : (n : Null) → IsTermAtSome ws done (term.Null n) → IsTermAtSome ws (done ++ p ∷ []) (term.Null n)
    still n h = (h.0, Contains-append_left done (p ∷ []) h.0 h.1, h.2)

    older : All (λ n. IsTermAtSome ws (done ++ p ∷ []) (term.Null n)) old
    older = All-weaker (λ n. IsTermAtSome ws done (term.Null n)) (λ n. IsTermAtSome ws (done ++ p ∷ []) (term.Null n)) still old are.each

    -- a null at one of the places was there, or is the one at this place
    split : (n : Null) → IsTermAtSome ws (done ++ p ∷ []) (term.Null n) → IsTrue (has_null old n) ⊎ (term_at ws p ≡ term.Null n)
    split n h = elim (Contains-push_cases done p h.0 h.1) [
      | inl o ↦ inl (are.all n (h.0, o, h.2))
      | inr same ↦ inr (ap (term_at ws) same ∙ ap as_term h.2)
    ]

    by : (t : Term) → term_at ws p ≡ t → AreNullsOf (IsTermAtSome ws (done ++ p ∷ [])) (with_term t old)
    by (term.Null m) is = record {
      each = keyed_all (λ n. IsTermAtSome ws (done ++ p ∷ []) (term.Null n)) old m (p, Contains-push done p, stands_null p m part is) older;
      all = λ n h. elim (split n h) [
        | inl o ↦ keyed old m n o
        | inr this ↦
            let both : term.Null m ≡ term.Null n = sym is ∙ this in
            let same : m ≡ n = cc in
            subst (λ k. IsTrue (has_null (insert_key same_null old m) k)) same (keyed_itself old m)
      ];
    }
    by (term.Column k) is = record { each = older; all = λ n h. elim (split n h) [ inl o ↦ o | inr this ↦ let bad : term.Column k ≡ term.Null n = sym is ∙ this in cc ] }
    by (term.Value x) is = record { each = older; all = λ n h. elim (split n h) [ inl o ↦ o | inr this ↦ let bad : term.Value x ≡ term.Null n = sym is ∙ this in cc ] }

  pub nulls_turn : (places : List ℕ) (i : ℕ) (old new : List Null) → i < length places → IsPart ws (get_or places i 0) → new ≡ with_term (term_at ws (get_or places i 0)) old → AreNullsOf (IsTermAtSome ws (take i places)) old
      → AreNullsOf (IsTermAtSome ws (take (i + 1) places)) new
  nulls_turn places i old new lt part put are =
      subst (λ l. AreNullsOf (IsTermAtSome ws l) new) (sym (take_more places i 0 lt)) (nulls_more (take i places) (get_or places i 0) old new part put are)
