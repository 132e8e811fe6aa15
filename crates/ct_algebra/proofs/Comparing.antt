-- The columns that a predicate asks to be equal: what they decide.
use Rattle.std.proofs.Common.{◌≡◌, ℕ, ◌-◌, ◌<◌, ◌≤◌, Bool, true, false, ◌&&◌, List, [], ◌∷◌, ◌++◌, map, length, min, max, Some, None, refl, ap, sym, ◌∙◌, arith}
use Rattle.std.{specs.Prelude.{All, nat_lt, nat_le, if◌then◌else◌}, specs.Option.option_to_list}
use Rattle.std.proofs.lemmas.Bool.{and_left, and_right, and_parts, ltb-true, leb-true, leb-false}
use Rattle.std.proofs.lemmas.List.{get_or_append_left, get_or-append_right, append_assoc, append-nil}
use Rattle.std.proofs.lemmas.List.Elements.{All-nil, All-cons, All-append, All-weaker}
use Rattle.ct_word.{specs.declared.values.Value.Value, specs.Value.{same_value, cell_at, other_zero}}
use Rattle.ct_word.specs.Condition.{Condition, Conditions, True, False, Same, Not, And, Or, none, also, listed, holds}
use Rattle.ct_query.{specs.declared.query.Pred.Pred, specs.Pred.condition_of, proofs.Trees.{and_is, or_is}}
use Rattle.ct_condition.proofs.Values.{same_turned}
use Rattle.ct_algebra.{specs.Equals.{across, equal_in, equals_in, equals_of, HasEqual}}
use Rattle.ct_query.specs.declared.query.Pred.TheVariants as pred
use Rattle.ct_word.specs.declared.values.Term.TheVariants as term

-- a run is no equality by itself
pub and_alone : (width : ℕ) (cs : List Pred) → equal_in width (condition_of (pred.And cs)) ≡ None
and_alone width cs = ap (equal_in width) (and_is cs)

pub or_alone : (width : ℕ) (cs : List Pred) → equal_in width (condition_of (pred.Or cs)) ≡ None
or_alone width cs = ap (equal_in width) (or_is cs)

pub and_equals : (width : ℕ) (cs : List Pred) → equals_of width (condition_of (pred.And cs)) ≡ equals_in width (listed (map condition_of cs))
and_equals width cs = ap (equals_of width) (and_is cs)

pub or_equals : (width : ℕ) (cs : List Pred) → equals_of width (condition_of (pred.Or cs)) ≡ []
or_equals width cs = ap (equals_of width) (or_is cs)

-- one more part of a run
pub equals_more : (width : ℕ) (cs : List Condition) (c : Condition) → equals_in width (listed (cs ++ c ∷ [])) ≡ equals_in width (listed cs) ++ option_to_list (equal_in width c)
equals_more width [] c = append-nil (option_to_list (equal_in width c))
equals_more width (d ∷ cs) c =
    ap (λ l. option_to_list (equal_in width d) ++ l) (equals_more width cs c)
    ∙ sym (append_assoc (option_to_list (equal_in width d)) (equals_in width (listed cs)) (option_to_list (equal_in width c)))

-- two columns, one of each row
module _ (width i j : ℕ) where
  below : (low high : ℕ) → (nat_lt low width && nat_le width high) ≡ true → (low < width) × (width ≤ high)
  below low high e =
      let both = and_parts (nat_lt low width) (nat_le width high) e in
      (ltb-true low width both.0, leb-true width high both.1)

  module _ (l r : List Value) (wide : length l ≡ width) where
    sides_apart : (low high : ℕ) → low < width → width ≤ high → same_value (cell_at l low) (cell_at r (high - width)) ≡ false
        → same_value (cell_at (l ++ r) low) (cell_at (l ++ r) high) ≡ false
    sides_apart low high lt le e =
        (λ t. same_value (get_or_append_left l r other_zero low (omega (arith, wide)) t) (get_or-append_right l r width high other_zero wide le t)) ∙ e

    -- in either order
    cells_apart : min i j < width → width ≤ max i j → same_value (cell_at l (min i j)) (cell_at r (max i j - width)) ≡ false
        → same_value (cell_at (l ++ r) i) (cell_at (l ++ r) j) ≡ false
    cells_apart lt le e = by_order (nat_le i j) refl where
      by_order : (b : Bool) → nat_le i j ≡ b → same_value (cell_at (l ++ r) i) (cell_at (l ++ r) j) ≡ false
      by_order true is =
          let order : i ≤ j = leb-true i j is in
          let low : min i j ≡ i = omega arith in
          let high : max i j ≡ j = omega arith in
          (λ t. same_value (cell_at (l ++ r) (sym low t)) (cell_at (l ++ r) (sym high t))) ∙ sides_apart (min i j) (max i j) lt le e
      by_order false is =
          let order : j < i = leb-false i j is in
          let low : min i j ≡ j = omega arith in
          let high : max i j ≡ i = omega arith in
          same_turned (cell_at (l ++ r) i) (cell_at (l ++ r) j)
          ∙ (λ t. same_value (cell_at (l ++ r) (sym low t)) (cell_at (l ++ r) (sym high t))) ∙ sides_apart (min i j) (max i j) lt le e

pub has_across : (width i j : ℕ) → All (HasEqual width (Same (term.Column i) (term.Column j))) (option_to_list (across width (Some i) (Some j)))
has_across width i j = by_test (nat_lt (min i j) width && nat_le width (max i j)) refl where
  by_test : (b : Bool) → (nat_lt (min i j) width && nat_le width (max i j)) ≡ b
      → All (HasEqual width (Same (term.Column i) (term.Column j))) (option_to_list (if b then Some (record { left = min i j; right = max i j - width }) else None))
  by_test false e = All-nil _
  by_test true e =
      let lt = (below width i j (min i j) (max i j) e).0 in
      let le = (below width i j (min i j) (max i j) e).1 in
      All-cons (HasEqual width (Same (term.Column i) (term.Column j))) (record { left = min i j; right = max i j - width }) [] (record {
        left = lt;
        right = λ n b. omega (arith, b.0, b.1, le);
        decides = λ v l r wide ne. cells_apart width i j l r wide lt le ne;
      }) (All-nil _)

has_own : (width : ℕ) (c : Condition) → All (HasEqual width c) (option_to_list (equal_in width c))
has_own width True = All-nil _
has_own width False = All-nil _
has_own width (Not c) = All-nil _
has_own width (And cs) = All-nil _
has_own width (Or cs) = All-nil _
has_own width (Same (term.Column i) (term.Column j)) = has_across width i j
has_own width (Same (term.Column i) (term.Null u)) = All-nil _
has_own width (Same (term.Column i) (term.Value x)) = All-nil _
has_own width (Same (term.Null u) t) = All-nil _
has_own width (Same (term.Value x) t) = All-nil _

has_each : (width : ℕ) (cs : Conditions) → All (HasEqual width (And cs)) (equals_in width cs)
has_each width none = All-nil _
has_each width (also c cs) =
    All-append (HasEqual width (And (also c cs))) (option_to_list (equal_in width c)) (equals_in width cs)
    (All-weaker (HasEqual width c) (HasEqual width (And (also c cs))) (λ e h. record {
      left = h.left;
      right = λ n b. h.right n b.0;
      decides = λ v l r wide ne. and_left (holds v (l ++ r) c) (holds v (l ++ r) (And cs)) (h.decides v l r wide ne);
    }) (option_to_list (equal_in width c)) (has_own width c))
    (All-weaker (HasEqual width (And cs)) (HasEqual width (And (also c cs))) (λ e h. record {
      left = h.left;
      right = λ n b. h.right n b.1;
      decides = λ v l r wide ne. and_right (holds v (l ++ r) c) (holds v (l ++ r) (And cs)) (h.decides v l r wide ne);
    }) (equals_in width cs) (has_each width cs))

-- a condition has each of its columns equal
pub has_equals : (width : ℕ) (c : Condition) → All (HasEqual width c) (equals_of width c)
has_equals width (And cs) = has_each width cs
has_equals width True = All-nil _
has_equals width False = All-nil _
has_equals width (Not c) = All-nil _
has_equals width (Or cs) = All-nil _
has_equals width (Same s t) = has_own width (Same s t)
