-- How many equalities, NOTs and connectives the condition at a place has.
use Rattle.std.proofs.Common.{◌≡◌, ℕ, ◌+◌, ◌≤◌, ◌<◌, not, List, [], Option, Some, None, Result, Ok, length, take, get_or, nat_eq, inl, inr, refl, ap, sym, ◌∙◌, arith}
use Rattle.std.{specs.Prelude.{◌⊎◌, sum_by, slice_get}, proofs.lemmas.Bool.cases_eq, proofs.lemmas.List.length-take-le, proofs.lemmas.Option.none-some}
use Rattle.std.proofs.lemmas.List.Sums.{sum_by-cons, sum_by_more}
use Rattle.ct_word.{specs.declared.kinds.Kind.Kind, specs.Word.{kind_of, left_of, right_of}, specs.Condition.Not, specs.Stands.StandsAt, specs.Connective.unit}
use Rattle.ct_word.{specs.Reading.{Meaning, IsCond, as_cond, by_kind, meanings}, specs.WellFormed.IsWellFormed, proofs.Splits.{meaning_at, some-injective}}
use Rattle.ct_word.{proofs.Prefixes.{get_in_prefix, condition_in_prefix}, proofs.Stands.stands_for_packed, specs.declared.connectives.Connective.Connective}
use Rattle.ct_arena.specs.Counts.{opening}
use Rattle.ct_query.specs.declared.query.Pred.{Pred, And, Row_of-Pred, end_of-Pred, more_of-Pred, items-the_row-Pred, items_hidden-the_row-Pred-0}
use Rattle.ct_query.{specs.Pred.{condition_of, conditions_of}, specs.Bounds.{ops, all_ops}, proofs.Trees.row_of}
use Rattle.ct_condition.specs.Folding.{FoldsTo, denied_by, denied_in, denied, are_constants, folded_eq, folded_not, folded_join, kind_under, unit_place, settling_place}
use Rattle.ct_condition.{specs.Truth.ops_at, specs.Runs.{run_ops, under}, proofs.Counted.{joined, unit_folds}}
use Rattle.ct_condition.proofs.Denied.{equal_tests, not_tests, join_tests, is_literal}
use mathlib.Core.List.{IsPrefix}
use Rattle.ct_word.specs.declared.kinds.Kind.TheVariants as kind
use Rattle.ct_word.specs.declared.connectives.Connective.TheVariants as connective

-- a word Not stands for the negation of the place that it denies
by_denied : (o : Option Kind) (ms : List Meaning) (a b d : ℕ) → denied_by o a ≡ Some d → by_kind o ms a b ≡ IsCond (Not (as_cond (slice_get ms d)))
by_denied (Some kind.Not) ms a b d e = ap (λ x. IsCond (Not (as_cond (slice_get ms x)))) (some-injective a d e)
by_denied _ ms a b d e = absurd (none-some d e)

module _ (ws : List ℕ) (formed : IsWellFormed ws) where
  denied_word : (c d : ℕ) (o : Option ℕ) → slice_get ws c ≡ o → denied_in o ≡ Some d → ops_at ws c ≡ ops_at ws d + 1
  denied_word c d (Some w) there e =
      ap (λ o. ops (as_cond o)) (meaning_at ws formed c w there ∙ ap (λ m. Some m) (by_denied (kind_of w) (meanings ws) (left_of w) (right_of w) d e))
  denied_word c d None there e = absurd (none-some d e)

  module _ (begins : IsPrefix opening ws) where
    true_ops : ops_at ws 0 ≡ 0
    unfolding opening
    true_ops = ap (λ o. ops (as_cond o)) (stands_for_packed ws 0 kind.True 0 0 formed (omega arith) (omega arith) (get_in_prefix opening ws 0 begins (omega arith)))

    false_ops : ops_at ws 1 ≡ 0
    unfolding opening
    false_ops = ap (λ o. ops (as_cond o)) (stands_for_packed ws 1 kind.False 0 0 formed (omega arith) (omega arith) (get_in_prefix opening ws 1 begins (omega arith)))

    -- true and false have none
    pub literal_ops : (p : ℕ) → (p ≡ 0) ⊎ (p ≡ 1) → ops_at ws p ≡ 0
    literal_ops p (inl e) = ap (ops_at ws) e ∙ true_ops
    literal_ops p (inr e) = ap (ops_at ws) e ∙ false_ops

    -- of the place that a condition folds to
    pub eq_folded : (s t p : ℕ) → folded_eq ws s t ≡ Some p → ops_at ws p ≤ 1
    eq_folded s t p e = let z = literal_ops p (equal_tests (nat_eq s t) (are_constants ws s t) p e) in omega arith

    pub not_folded : (c p : ℕ) → folded_not ws c ≡ Some p → ops_at ws p ≤ ops_at ws c + 1
    not_folded c p e = elim (not_tests (nat_eq c 0) (nat_eq c 1) (denied ws c) p e) [
      | inl l ↦ let z = literal_ops p l in omega arith
      | inr d ↦ let z = denied_word c p (slice_get ws c) refl d in omega arith
    ]

    pair_folded : (q c d p : ℕ) → (q ≡ 0) ⊎ (q ≡ 1) → (p ≡ q) ⊎ ((p ≡ c) ⊎ (p ≡ d)) → ops_at ws p ≤ ops_at ws c + ops_at ws d + 1
    pair_folded q c d p l (inl e) = let z : ops_at ws p ≡ 0 = ap (ops_at ws) e ∙ literal_ops q l in omega arith
    pair_folded q c d p l (inr (inl e)) = let z : ops_at ws p ≡ ops_at ws c = ap (ops_at ws) e in omega arith
    pair_folded q c d p l (inr (inr e)) = let z : ops_at ws p ≡ ops_at ws d = ap (ops_at ws) e in omega arith

    pub join_folded : (j : Connective) (c d p : ℕ) → folded_join j ws c d ≡ Some p → ops_at ws p ≤ ops_at ws c + ops_at ws d + 1
    join_folded j c d p e = pair_folded (settling_place j) c d p (is_literal (not (unit j))) (join_tests j ws c d p e)

-- two conditions under a connective
join_ops : (j : Connective) (ws : List ℕ) (place a b : ℕ) → StandsAt ws place (by_kind (Some (kind_under j)) (meanings ws) a b) → ops_at ws place ≡ ops_at ws a + (ops_at ws b + 0) + (0 + 1)
join_ops connective.And ws place a b h = ap (λ o. ops (as_cond o)) h
join_ops connective.Or ws place a b h = ap (λ o. ops (as_cond o)) h

-- of the place of a word that was put
module _ (old new : List ℕ) (longer : IsPrefix old new) where
  -- a place keeps its condition
  pub ops_kept : (p : ℕ) → p < length old → ops_at new p ≡ ops_at old p
  ops_kept p lt = ap ops (condition_in_prefix old new p longer lt)

  pub put_eq : (place s t : ℕ) → StandsAt new place (by_kind (Some kind.Equal) (meanings new) s t) ⊎ StandsAt new place (by_kind (Some kind.Equal) (meanings new) t s) → ops_at new place ≤ 1
  put_eq place s t (inl h) = let z : ops_at new place ≡ 1 = ap (λ o. ops (as_cond o)) h in omega arith
  put_eq place s t (inr h) = let z : ops_at new place ≡ 1 = ap (λ o. ops (as_cond o)) h in omega arith

  pub put_not : (place c : ℕ) → c < length old → StandsAt new place (by_kind (Some kind.Not) (meanings new) c 0) → ops_at new place ≤ ops_at old c + 1
  put_not place c lt h =
      let z : ops_at new place ≡ ops_at new c + 1 = ap (λ o. ops (as_cond o)) h in
      let k = ops_kept c lt in
      omega arith

  module _ (j : Connective) (place c d : ℕ) (left : c < length old) (right : d < length old) where
    pub put_join : StandsAt new place (by_kind (Some (kind_under j)) (meanings new) c d) ⊎ StandsAt new place (by_kind (Some (kind_under j)) (meanings new) d c)
        → ops_at new place ≤ ops_at old c + ops_at old d + 1
    put_join (inl h) = omega (arith, join_ops j new place c d h, ops_kept c left, ops_kept d right)
    put_join (inr h) = omega (arith, join_ops j new place d c h, ops_kept c left, ops_kept d right)

other_of : {E : Type 0} (fold : Option ℕ) (w : ℕ) (old new : List ℕ) (d q : ℕ) (r : Result ℕ E) → fold ≡ Some d → r ≡ Ok q → FoldsTo fold w old new r → ops_at new q ≡ ops_at old d
other_of (Some p) w old new d q r e is h =
    let ok : Ok q ≡ Ok p = sym is ∙ h.0 in
    let same : q ≡ d = cc in
    λ i. ops_at (h.1 i) (same i)
other_of None w old new d q r e is h = absurd (none-some d e)

-- the first connective of a run is with its unit
pub join_first : {E : Type 0} (j : Connective) (w : ℕ) (old new : List ℕ) (c d q : ℕ) (r : Result ℕ E) → c ≡ unit_place j → r ≡ Ok q → FoldsTo (folded_join j old c d) w old new r → ops_at new q ≡ ops_at old d
join_first j w old new c d q r e is h = other_of (folded_join j old c d) w old new d q r (unit_folds j old c d e) is h

abbrev of_one : Pred → ℕ
of_one p = ops (condition_of p)

of_row : (n : _) (row : Row_of-Pred n) → all_ops (conditions_of row) ≡ sum_by of_one (items-the_row-Pred n row)
of_row n end_of-Pred = refl
of_row n (more_of-Pred c rest) = let e = of_row _ rest in omega (arith, sum_by-cons of_one c (items-the_row-Pred _ rest))

of_list : (cs : List Pred) → ops (condition_of (And cs)) ≡ run_ops cs
of_list cs =
    let row = row_of (And cs) in
    let e = of_row row.0 row.1 in
    let j = joined [] [] row.0 row.1 in
    omega arith ∙ ap run_ops (items_hidden-the_row-Pred-0 cs)

-- a list under a connective has those of its run
pub ops_under : (j : Connective) (cs : List Pred) → ops (condition_of (under j cs)) ≡ run_ops cs
ops_under connective.And cs = of_list cs
ops_under connective.Or cs = of_list cs

-- a run by its items: k for the run before an item, n for the item, m for the run with it
module _ (ps : List Pred) (i : ℕ) (p : Pred) (within : i < length ps) (is : p ≡ get_or ps i p) (k n m : ℕ) where
  more : sum_by of_one (take (i + 1) ps) ≡ sum_by of_one (take i ps) + of_one p
  more = sum_by_more of_one ps i p within ∙ ap (λ q. sum_by of_one (take i ps) + of_one q) (sym is)

  pub run_ops_more : k ≤ run_ops (take i ps) → n ≤ ops (condition_of p) → (i ≡ 0 → m ≡ n) → m ≤ k + n + 1 → m ≤ run_ops (take (i + 1) ps)
  run_ops_more before item first next = elim (cases_eq i 0) [
    | inl e ↦ let same = first e in omega (arith, more, length-take-le i ps (omega arith), length-take-le (i + 1) ps (omega arith))
    | inr ne ↦ omega (arith, more, length-take-le i ps (omega arith), length-take-le (i + 1) ps (omega arith))
  ]
