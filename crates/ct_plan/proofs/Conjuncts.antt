-- What conjuncts mean, and what they mean on one side of a product.
use Rattle.std.proofs.Common.{◌≡◌, ℕ, Bool, true, false, not, cond, ◌&&◌, ◌||◌, List, [], ◌∷◌, ◌++◌, map, length, refl, ap, ◌∙◌, arith}
use Rattle.std.{specs.Prelude.{filter, nat_lt, nat_le}, specs.List.list_all}
use Rattle.std.{proofs.lemmas.Bool.{and_parts, ltb-true, leb-true}, proofs.lemmas.List.{get_or_append_left, get_or-append_right}, proofs.lemmas.List.Folds.list_all-append}
use Rattle.ct_word.{specs.declared.values.Value.Value, specs.declared.values.Term.Term, specs.Value.{World, at, same_value, other_zero}}
use Rattle.ct_word.specs.Condition.{Condition, Conditions, True, False, Same, Not, And, Or, none, also, holds, all_hold, any_holds, listed}
use Rattle.ct_query.{specs.Plain.{PlainQuery, Product}, specs.Size.{stopped, greatest}}
use Rattle.ct_plan.specs.Columns.{column_passes, columns_pass, all_columns_pass, is_column_of, is_of, is_across, term_from, counted_from, all_counted_from}
use Rattle.ct_plan.specs.Planned.{conjuncts, all_conjuncts, taken_apart}
use Rattle.ct_word.specs.declared.values.Term.TheVariants as term
use Rattle.ct_plan.specs.declared.sides.Side.TheVariants as side

and_true : (b : Bool) → (b && true) ≡ b
and_true true = refl
and_true false = refl

module _ (v : World) where
  -- each of these conditions holds on a tuple
  abbrev pub passes : List Condition → List Value → Bool
  passes cs r = list_all (λ c. holds v r c) cs

  pub holds_listed : (cs : List Condition) (r : List Value) → all_hold v r (listed cs) ≡ passes cs r
  holds_listed [] r = refl
  holds_listed (c ∷ cs) r = ap (λ b. holds v r c && b) (holds_listed cs r)

  pub holds_alone : (c : Condition) (r : List Value) → passes (c ∷ []) r ≡ holds v r c
  holds_alone c r = and_true (holds v r c)

  mutual
    conjuncts_hold : (c : Condition) (r : List Value) → passes (conjuncts c) r ≡ holds v r c
    conjuncts_hold True r = refl
    conjuncts_hold False r = refl
    conjuncts_hold (Same s t) r = holds_alone (Same s t) r
    conjuncts_hold (Not c) r = holds_alone (Not c) r
    conjuncts_hold (And cs) r = all_conjuncts_hold cs r
    conjuncts_hold (Or cs) r = holds_alone (Or cs) r

    all_conjuncts_hold : (cs : Conditions) (r : List Value) → passes (all_conjuncts cs) r ≡ all_hold v r cs
    all_conjuncts_hold none r = refl
    all_conjuncts_hold (also c cs) r =
        let first = conjuncts_hold c r in
        let rest = all_conjuncts_hold cs r in
        list_all-append (λ d. holds v r d) (conjuncts c) (all_conjuncts cs) ∙ (λ i. first i && rest i)

  pub apart_hold : (c : Condition) (q : PlainQuery) (r : List Value) → passes (taken_apart c q) r ≡ holds v r c
  apart_hold c (Product a b) r = conjuncts_hold c r
  apart_hold c _ r = holds_alone c r

  -- a tuple of a product
  module _ (n w : ℕ) (stops : w ≡ stopped n) (l r : List Value) (wide : length l ≡ n) where
    left_at : (t : Term) → column_passes (is_column_of side.Left w) t ≡ true → at v (l ++ r) t ≡ at v l t
    left_at (term.Column k) e = get_or_append_left l r other_zero k (omega (arith, ltb-true k w e, stops))
    left_at (term.Null u) e = refl
    left_at (term.Value x) e = refl

    mutual
      left_holds : (c : Condition) → is_of side.Left w c ≡ true → holds v (l ++ r) c ≡ holds v l c
      left_holds True e = refl
      left_holds False e = refl
      left_holds (Same s t) e =
          let both = and_parts (column_passes (is_column_of side.Left w) s) (column_passes (is_column_of side.Left w) t) e in
          let one = left_at s both.0 in
          let other = left_at t both.1 in
          λ i. same_value (one i) (other i)
      left_holds (Not c) e = ap not (left_holds c e)
      left_holds (And cs) e = all_left_hold cs e
      left_holds (Or cs) e = any_left_holds cs e

      all_left_hold : (cs : Conditions) → all_columns_pass (is_column_of side.Left w) cs ≡ true → all_hold v (l ++ r) cs ≡ all_hold v l cs
      all_left_hold none e = refl
      all_left_hold (also c cs) e =
          let both = and_parts (columns_pass (is_column_of side.Left w) c) (all_columns_pass (is_column_of side.Left w) cs) e in
          let first = left_holds c both.0 in
          let rest = all_left_hold cs both.1 in
          λ i. first i && rest i

      any_left_holds : (cs : Conditions) → all_columns_pass (is_column_of side.Left w) cs ≡ true → any_holds v (l ++ r) cs ≡ any_holds v l cs
      any_left_holds none e = refl
      any_left_holds (also c cs) e =
          let both = and_parts (columns_pass (is_column_of side.Left w) c) (all_columns_pass (is_column_of side.Left w) cs) e in
          let first = left_holds c both.0 in
          let rest = any_left_holds cs both.1 in
          λ i. first i || rest i

    right_at : (t : Term) → column_passes (is_column_of side.Right w) t ≡ true → at v (l ++ r) t ≡ at v r (term_from w t)
    right_at (term.Column k) e =
        let both = and_parts (nat_le w k) (nat_lt w greatest) e in
        let same : length l ≡ w = omega (arith, stops, ltb-true w greatest both.1) in
        get_or-append_right l r w k other_zero same (leb-true w k both.0)
    right_at (term.Null u) e = refl
    right_at (term.Value x) e = refl

    mutual
      right_holds : (c : Condition) → is_of side.Right w c ≡ true → holds v (l ++ r) c ≡ holds v r (counted_from w c)
      right_holds True e = refl
      right_holds False e = refl
      right_holds (Same s t) e =
          let both = and_parts (column_passes (is_column_of side.Right w) s) (column_passes (is_column_of side.Right w) t) e in
          let one = right_at s both.0 in
          let other = right_at t both.1 in
          λ i. same_value (one i) (other i)
      right_holds (Not c) e = ap not (right_holds c e)
      right_holds (And cs) e = all_right_hold cs e
      right_holds (Or cs) e = any_right_holds cs e

      all_right_hold : (cs : Conditions) → all_columns_pass (is_column_of side.Right w) cs ≡ true → all_hold v (l ++ r) cs ≡ all_hold v r (all_counted_from w cs)
      all_right_hold none e = refl
      all_right_hold (also c cs) e =
          let both = and_parts (columns_pass (is_column_of side.Right w) c) (all_columns_pass (is_column_of side.Right w) cs) e in
          let first = right_holds c both.0 in
          let rest = all_right_hold cs both.1 in
          λ i. first i && rest i

      any_right_holds : (cs : Conditions) → all_columns_pass (is_column_of side.Right w) cs ≡ true → any_holds v (l ++ r) cs ≡ any_holds v r (all_counted_from w cs)
      any_right_holds none e = refl
      any_right_holds (also c cs) e =
          let both = and_parts (columns_pass (is_column_of side.Right w) c) (all_columns_pass (is_column_of side.Right w) cs) e in
          let first = right_holds c both.0 in
          let rest = any_right_holds cs both.1 in
          λ i. first i || rest i

    to_both : (h a b c : Bool) → (h && (a && (b && c))) ≡ ((h && a) && ((h && b) && c))
    to_both true a b c = refl
    to_both false a b c = refl

    to_left : (h a b c : Bool) → (h && (a && (b && c))) ≡ ((h && a) && (b && c))
    to_left true a b c = refl
    to_left false a b c = refl

    to_right : (h a b c : Bool) → (h && (a && (b && c))) ≡ (a && ((h && b) && c))
    to_right true a b c = refl
    to_right false true b c = refl
    to_right false false b c = refl

    to_none : (h a b c : Bool) → (h && (a && (b && c))) ≡ (a && (b && (h && c)))
    to_none true a b c = refl
    to_none false true true c = refl
    to_none false true false c = refl
    to_none false false b c = refl

    -- the conditions hold where those of the left part, of the right part and across do
    pub passes_parts : (cs : List Condition)
        → passes cs (l ++ r) ≡ (passes (filter (is_of side.Left w) cs) l && (passes (map (counted_from w) (filter (is_of side.Right w) cs)) r && passes (filter (is_across w) cs) (l ++ r)))
    passes_parts [] = refl
    passes_parts (c ∷ cs) =
        ap (λ b. holds v (l ++ r) c && b) (passes_parts cs) ∙ by_sides (is_of side.Left w c) (is_of side.Right w c) refl refl where
          by_sides : (x y : Bool) → is_of side.Left w c ≡ x → is_of side.Right w c ≡ y
              → (holds v (l ++ r) c && (passes (filter (is_of side.Left w) cs) l && (passes (map (counted_from w) (filter (is_of side.Right w) cs)) r && passes (filter (is_across w) cs) (l ++ r))))
              ≡ (passes (cond x (c ∷ filter (is_of side.Left w) cs) (filter (is_of side.Left w) cs)) l
              && (passes (map (counted_from w) (cond y (c ∷ filter (is_of side.Right w) cs) (filter (is_of side.Right w) cs))) r
              && passes (cond (not (x || y)) (c ∷ filter (is_across w) cs) (filter (is_across w) cs)) (l ++ r)))
          by_sides true true e f =
              let to_l = left_holds c e in
              let to_r = right_holds c f in
              to_both (holds v (l ++ r) c) (passes (filter (is_of side.Left w) cs) l) (passes (map (counted_from w) (filter (is_of side.Right w) cs)) r) (passes (filter (is_across w) cs) (l ++ r))
              ∙ (λ i. (to_l i && passes (filter (is_of side.Left w) cs) l) && ((to_r i && passes (map (counted_from w) (filter (is_of side.Right w) cs)) r) && passes (filter (is_across w) cs) (l ++ r)))
          by_sides true false e f =
              let to_l = left_holds c e in
              to_left (holds v (l ++ r) c) (passes (filter (is_of side.Left w) cs) l) (passes (map (counted_from w) (filter (is_of side.Right w) cs)) r) (passes (filter (is_across w) cs) (l ++ r))
              ∙ (λ i. (to_l i && passes (filter (is_of side.Left w) cs) l) && (passes (map (counted_from w) (filter (is_of side.Right w) cs)) r && passes (filter (is_across w) cs) (l ++ r)))
          by_sides false true e f =
              let to_r = right_holds c f in
              to_right (holds v (l ++ r) c) (passes (filter (is_of side.Left w) cs) l) (passes (map (counted_from w) (filter (is_of side.Right w) cs)) r) (passes (filter (is_across w) cs) (l ++ r))
              ∙ (λ i. passes (filter (is_of side.Left w) cs) l && ((to_r i && passes (map (counted_from w) (filter (is_of side.Right w) cs)) r) && passes (filter (is_across w) cs) (l ++ r)))
          by_sides false false e f =
              to_none (holds v (l ++ r) c) (passes (filter (is_of side.Left w) cs) l) (passes (map (counted_from w) (filter (is_of side.Right w) cs)) r) (passes (filter (is_across w) cs) (l ++ r))
