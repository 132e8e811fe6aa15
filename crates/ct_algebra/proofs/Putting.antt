-- Literals that have places, as words are added, and the words of those that have none.
use Rattle.std.proofs.Common.{◌≡◌, ℕ, ◌+◌, ◌<◌, ◌≤◌, Bool, true, false, List, [], ◌∷◌, ◌++◌, length, map, drop, get_or, Result, Ok, Err, refl, sym, ap, subst, ◌∙◌, arith, inl, inr}
use Rattle.std.{specs.Prelude.{◌⊎◌, Contains, OnOk, if◌then◌else◌}, proofs.lemmas.Bool.false≢true, proofs.lemmas.List.Sums.{sum_by-le-sum_by, sum_by-cons}, proofs.lemmas.List.{drop_more, drop_all}}
use Rattle.std.proofs.lemmas.List.Elements.{Contains-append_left, Contains-append_right, Contains-append_cases}
use Rattle.ct_word.{specs.declared.values.Term.Term, specs.Condition.{Condition, Conditions, True, False, Same, Not, And, Or, none, also, listed}, proofs.Items.{no_item, sole_item, item_cases, first_item, later_item}}
use Rattle.ct_query.{specs.declared.query.Pred.Pred, specs.Pred.condition_of, specs.Bounds.{literal_words, column_words}, specs.Fits.IsColumnBelow, specs.Fields.{FitsFields, FitsFieldsOn, AreFittingOn, AreAllFittingOn}, specs.Terms.{condition_terms, all_terms}}
use Rattle.ct_condition.{specs.Places.{has_place, new_literal_words, new_terms}, proofs.Placed.{place_stays, terms_fewer}}
use Rattle.ct_algebra.specs.Words.{EachLiteral, unplaced}
use mathlib.Core.List.{IsPrefix}
use Rattle.ct_word.specs.declared.values.Term.TheVariants as term

-- a predicate's own literals have numbers that a word has room for
literal_fits : (n : ℕ) (t : Term) → FitsFieldsOn n t → IsColumnBelow 0 t → FitsFields t
literal_fits n (term.Column k) fits lt = absurd (omega arith)
literal_fits n (term.Null u) fits lt = fits
literal_fits n (term.Value x) fits lt = fits

one_of_two : {X : Type 0} (a b x : X) → Contains (a ∷ b ∷ []) x → (a ≡ x) ⊎ (b ≡ x)
one_of_two a b x h = elim (item_cases (b ∷ []) a x h) [ inl e ↦ inl e | inr there ↦ inr (sole_item b x there) ]

mutual
  pub literals_fit : (n : ℕ) (c : Condition) → AreFittingOn n c → EachLiteral FitsFields (condition_terms c)
  literals_fit n True fit t l h = absurd (no_item t h)
  literals_fit n False fit t l h = absurd (no_item t h)
  literals_fit n (Same s u) fit t l h = elim (one_of_two s u t h) [
    | inl e ↦ literal_fits n t (subst (FitsFieldsOn n) e fit.0) l
    | inr e ↦ literal_fits n t (subst (FitsFieldsOn n) e fit.1) l
  ]
  literals_fit n (Not c) fit t l h = literals_fit n c fit t l h
  literals_fit n (And cs) fit t l h = all_literals_fit n cs fit t l h
  literals_fit n (Or cs) fit t l h = all_literals_fit n cs fit t l h

  all_literals_fit : (n : ℕ) (cs : Conditions) → AreAllFittingOn n cs → EachLiteral FitsFields (all_terms cs)
  all_literals_fit n none fit t l h = absurd (no_item t h)
  all_literals_fit n (also c cs) fit t l h = elim (Contains-append_cases (condition_terms c) (all_terms cs) t h) [
    | inl i ↦ literals_fit n c fit.0 t l i
    | inr i ↦ all_literals_fit n cs fit.1 t l i
  ]

-- a condition whose literals have places has no words of literals to put
module _ (ws : List ℕ) where
  abbrev HasPlace : Term → Type 0
  HasPlace t = has_place ws t ≡ true

  by_place : (b : Bool) (n : ℕ) → b ≡ true → (if b then 0 else n) ≡ 0
  by_place true n e = refl
  by_place false n e = absurd (false≢true e)

  by_column : (b : Bool) (n : ℕ) → n ≡ 0 → (if b then 0 else n) ≡ 0
  by_column true n e = refl
  by_column false n e = e

  no_words : (t : Term) → (IsColumnBelow 0 t → HasPlace t) → new_literal_words ws t ≡ 0
  no_words (term.Column k) placed = by_column (has_place ws (term.Column k)) (literal_words (term.Column k)) refl
  no_words (term.Null u) placed = by_place (has_place ws (term.Null u)) (literal_words (term.Null u)) (placed tt)
  no_words (term.Value x) placed = by_place (has_place ws (term.Value x)) (literal_words (term.Value x)) (placed tt)

  mutual
    pub none_new : (c : Condition) → EachLiteral (λ t. has_place ws t ≡ true) (condition_terms c) → new_terms ws c ≡ 0
    none_new True placed = refl
    none_new False placed = refl
    none_new (Same s u) placed =
        let left = no_words s (λ l. placed s l (first_item (u ∷ []) s)) in
        let right = no_words u (λ l. placed u l (later_item (u ∷ []) s u (first_item [] u))) in
        omega (arith, left, right)
    none_new (Not c) placed = none_new c placed
    none_new (And cs) placed = all_none_new cs placed
    none_new (Or cs) placed = all_none_new cs placed

    all_none_new : (cs : Conditions) → EachLiteral (λ t. has_place ws t ≡ true) (all_terms cs) → new_terms ws (And cs) ≡ 0
    all_none_new none placed = refl
    all_none_new (also c cs) placed =
        let first = none_new c (λ t l h. placed t l (Contains-append_left (condition_terms c) (all_terms cs) t h)) in
        let rest = all_none_new cs (λ t l h. placed t l (Contains-append_right (condition_terms c) (all_terms cs) t h)) in
        omega (arith, first, rest)

-- as words are added
module _ (old new : List ℕ) (longer : IsPrefix old new) where
  -- literals keep their places
  pub places_stay : (terms : List Term) → EachLiteral (λ t. has_place old t ≡ true) terms → EachLiteral (λ t. has_place new t ≡ true) terms
  places_stay terms placed t l h = place_stays old new t longer (placed t l h)

  one_fewer : (t : Term) → new_literal_words new t ≤ new_literal_words old t
  one_fewer t = let both = terms_fewer old new longer (Same t t) in omega (arith, both)

  -- and literals without a place have no more words
  pub fewer_unplaced : (ts : List Term) → unplaced new ts ≤ unplaced old ts
  fewer_unplaced ts = sum_by-le-sum_by (new_literal_words new) (new_literal_words old) ts one_fewer

  -- fewer by those of one that has a place now
  less_one : (ts : List Term) (t : Term) → Contains ts t → new_literal_words new t ≡ 0 → unplaced new ts + new_literal_words old t ≤ unplaced old ts
  less_one [] t h zero = absurd (no_item t h)
  less_one (u ∷ ts) t h zero =
      let now : unplaced new (u ∷ ts) ≡ new_literal_words new u + unplaced new ts = sum_by-cons (new_literal_words new) u ts in
      let was : unplaced old (u ∷ ts) ≡ new_literal_words old u + unplaced old ts = sum_by-cons (new_literal_words old) u ts in
      elim (item_cases ts u t h) [
        | inl e ↦
            let rest = fewer_unplaced ts in
            let gone : new_literal_words new u ≡ 0 = subst (λ x. new_literal_words new x ≡ 0) (sym e) zero in
            let same : new_literal_words old u ≡ new_literal_words old t = ap (new_literal_words old) e in
            omega (arith, now, was, rest, gone, same)
        | inr there ↦ let rest = less_one ts t there zero in let first = one_fewer u in omega (arith, now, was, rest, first)
      ]

-- a literal is among all of them
one_within : (ws : List ℕ) (ts : List Term) (t : Term) → Contains ts t → new_literal_words ws t ≤ unplaced ws ts
one_within ws [] t h = absurd (no_item t h)
one_within ws (u ∷ ts) t h =
    let all : unplaced ws (u ∷ ts) ≡ new_literal_words ws u + unplaced ws ts = sum_by-cons (new_literal_words ws) u ts in
    elim (item_cases ts u t h) [
      | inl e ↦ let same : new_literal_words ws u ≡ new_literal_words ws t = ap (new_literal_words ws) e in omega (arith, all, same)
      | inr there ↦ let rest = one_within ws ts t there in omega (arith, all, rest)
    ]

-- a literal that was put, or for which there was no room
module _ (old new : List ℕ) (longer : IsPrefix old new) (before after : ℕ) where
  put_by : (b : Bool) (k : ℕ) → (b ≡ true → after ≡ before) → after ≤ before + k → after ≤ before + (if b then 0 else k)
  put_by true k same most = let s = same refl in omega (arith, s)
  put_by false k same most = most

  stops_by : (b : Bool) (k : ℕ) → (b ≡ true → ⊥) → after < before + k → after < before + (if b then 0 else k)
  stops_by true k absent most = absurd (absent refl)
  stops_by false k absent most = most

  -- a term that is no column
  module _ (t : Term) (no_column : column_words t ≡ 0) where
    pub put_grows : (has_place old t ≡ true → after ≡ before) → after ≤ before + (literal_words t + column_words t) → has_place new t ≡ true
        → (ts : List Term) → Contains ts t → after + unplaced new ts ≤ before + unplaced old ts + 0
    put_grows same most placed ts h =
        let less = less_one old new longer ts t h (by_place new (has_place new t) (literal_words t) placed) in
        let made : after ≤ before + new_literal_words old t = put_by (has_place old t) (literal_words t) same (omega (arith, most, no_column)) in
        omega (arith, less, made)

    pub put_stops : (has_place old t ≡ true → ⊥) → after < before + (literal_words t + column_words t) → (ts : List Term) → Contains ts t → after + 1 ≤ before + unplaced old ts + 0
    put_stops absent most ts h =
        let within = one_within old ts t h in
        let made : after < before + new_literal_words old t = stops_by (has_place old t) (literal_words t) absent (omega (arith, most, no_column)) in
        omega (arith, within, made)

-- a term that is no column is no word of a column
pub no_column_words : (t : Term) → IsColumnBelow 0 t → column_words t ≡ 0
no_column_words (term.Column k) lt = absurd (omega arith)
no_column_words (term.Null u) lt = refl
no_column_words (term.Value x) lt = refl

-- two literals that were put, one after the other
pub both_placed : {E : Type 0} (r : Result (Unit {0}) E) (mid new : List ℕ) (s u : Term) → IsPrefix mid new → EachLiteral (λ t. has_place mid t ≡ true) (s ∷ [])
    → OnOk r (EachLiteral (λ t. has_place new t ≡ true) (u ∷ [])) → OnOk r (EachLiteral (λ t. has_place new t ≡ true) (s ∷ u ∷ []))
both_placed (Ok x) mid new s u longer one other =
    λ t l h. elim (item_cases (u ∷ []) s t h) [
      | inl e ↦ place_stays mid new t longer (one t l (subst (λ y. Contains (s ∷ []) y) e (first_item [] s)))
      | inr there ↦ other t l there
    ]
both_placed (Err e) mid new s u longer one other = tt

-- the terms of a run of predicates
abbrev pub run_terms : List Pred → List Term
run_terms ps = all_terms (listed (map condition_of ps))

-- one more predicate of a run
module _ (ps : List Pred) (i : ℕ) (p : Pred) (lt : i < length ps) (is : p ≡ get_or ps i p) where
  next_terms : run_terms (drop i ps) ≡ condition_terms (condition_of p) ++ run_terms (drop (i + 1) ps)
  next_terms = ap run_terms (drop_more ps i p lt) ∙ ap (λ q. condition_terms (condition_of q) ++ run_terms (drop (i + 1) ps)) (sym is)

  pub item_within : (t : Term) → Contains (condition_terms (condition_of p)) t → Contains (run_terms (drop i ps)) t
  item_within t h = subst (λ ts. Contains ts t) (sym next_terms) (Contains-append_left (condition_terms (condition_of p)) (run_terms (drop (i + 1) ps)) t h)

  pub rest_within : (t : Term) → Contains (run_terms (drop (i + 1) ps)) t → Contains (run_terms (drop i ps)) t
  rest_within t h = subst (λ ts. Contains ts t) (sym next_terms) (Contains-append_right (condition_terms (condition_of p)) (run_terms (drop (i + 1) ps)) t h)

  pub placed_more : (mid new : List ℕ) (t : Term) → IsPrefix mid new → IsColumnBelow 0 t → EachLiteral (λ u. has_place new u ≡ true) (condition_terms (condition_of p))
      → (has_place mid t ≡ true) ⊎ Contains (run_terms (drop i ps)) t → (has_place new t ≡ true) ⊎ Contains (run_terms (drop (i + 1) ps)) t
  placed_more mid new t longer l its (inl e) = inl (place_stays mid new t longer e)
  placed_more mid new t longer l its (inr h) =
      elim (Contains-append_cases (condition_terms (condition_of p)) (run_terms (drop (i + 1) ps)) t (subst (λ ts. Contains ts t) next_terms h)) [
        | inl mine ↦ inl (its t l mine)
        | inr rest ↦ inr rest
      ]

-- at its end
pub all_placed : (ps : List Pred) (i : ℕ) (ws : List ℕ) (t : Term) → length ps ≤ i → (has_place ws t ≡ true) ⊎ Contains (run_terms (drop i ps)) t → has_place ws t ≡ true
all_placed ps i ws t le (inl e) = e
all_placed ps i ws t le (inr h) = absurd (no_item t (subst (λ qs. Contains (run_terms qs) t) (drop_all i ps le) h))
