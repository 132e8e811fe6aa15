-- What two conditions under a connective are worth where they fold.
use Rattle.std.{proofs.Common.{◌≡◌, ℕ, ◌<◌, ◌^◌, Bool, true, false, not, List, refl, ap, sym, ◌∙◌, length}, specs.Prelude.IsTrue}
use Rattle.ct_word.{specs.WellFormed.is_place_of, specs.declared.connectives.Connective.Connective, specs.Connective.{join, unit}, proofs.Joins.join_unit}
use Rattle.ct_condition.{specs.Truth.{HasTruth, Negates, truth_at, join_at}, proofs.Truths.{in_place, itself}}
use Rattle.ct_word.specs.declared.kinds.Class.TheVariants as class
use Rattle.ct_word.specs.declared.connectives.Connective.TheVariants as connective

join_settled : (j : Connective) (b : Bool) → not (unit j) ≡ join j (not (unit j)) b
join_settled connective.And b = refl
join_settled connective.Or b = refl

join_same : (j : Connective) (b : Bool) → b ≡ join j b b
join_same connective.And true = refl
join_same connective.And false = refl
join_same connective.Or true = refl
join_same connective.Or false = refl

join_denial : (j : Connective) (b : Bool) → not (unit j) ≡ join j (not b) b
join_denial connective.And true = refl
join_denial connective.And false = refl
join_denial connective.Or true = refl
join_denial connective.Or false = refl

pub join_swap : (j : Connective) (a b : Bool) → join j a b ≡ join j b a
join_swap connective.And true true = refl
join_swap connective.And true false = refl
join_swap connective.And false true = refl
join_swap connective.And false false = refl
join_swap connective.Or true true = refl
join_swap connective.Or true false = refl
join_swap connective.Or false true = refl
join_swap connective.Or false false = refl

module _ (ws : List ℕ) (j : Connective) where
  swapped : (c d p : ℕ) → HasTruth ws p (join_at j ws d c) → HasTruth ws p (join_at j ws c d)
  swapped c d p h = in_place ws p (join_at j ws d c) (join_at j ws c d) h (λ v row. join_swap j (truth_at ws d v row) (truth_at ws c v row))

  -- with the truth that settles it, and with the one that says nothing
  pub settled_left : (p c d : ℕ) → HasTruth ws p (λ v row. not (unit j)) → c ≡ p → HasTruth ws p (join_at j ws c d)
  settled_left p c d h e =
      in_place ws p (λ v row. not (unit j)) (join_at j ws c d) h
      (λ v row. join_settled j (truth_at ws d v row) ∙ ap (λ b. join j b (truth_at ws d v row)) (sym (ap (λ q. truth_at ws q v row) e ∙ h.truth_is v row)))

  pub settled_right : (p c d : ℕ) → HasTruth ws p (λ v row. not (unit j)) → d ≡ p → HasTruth ws p (join_at j ws c d)
  settled_right p c d h e = swapped c d p (settled_left p d c h e)

  pub unit_left : (p c d : ℕ) → length ws < 2 ^ 28 → IsTrue (is_place_of ws class.Cond d) → HasTruth ws p (λ v row. unit j) → c ≡ p → HasTruth ws d (join_at j ws c d)
  unit_left p c d small right h e =
      in_place ws d (truth_at ws d) (join_at j ws c d) (itself ws d small right)
      (λ v row. sym (ap (λ b. join j b (truth_at ws d v row)) (ap (λ q. truth_at ws q v row) e ∙ h.truth_is v row) ∙ join_unit j (truth_at ws d v row)))

  pub unit_right : (p c d : ℕ) → length ws < 2 ^ 28 → IsTrue (is_place_of ws class.Cond c) → HasTruth ws p (λ v row. unit j) → d ≡ p → HasTruth ws c (join_at j ws c d)
  unit_right p c d small left h e = swapped c d c (unit_left p d c small left h e)

  -- with itself, and with its negation
  pub with_itself : (c d : ℕ) → length ws < 2 ^ 28 → IsTrue (is_place_of ws class.Cond c) → c ≡ d → HasTruth ws c (join_at j ws c d)
  with_itself c d small left e =
      in_place ws c (truth_at ws c) (join_at j ws c d) (itself ws c small left)
      (λ v row. join_same j (truth_at ws c v row) ∙ ap (λ p. join j (truth_at ws c v row) (truth_at ws p v row)) e)

  pub denied_left : (p c d : ℕ) → HasTruth ws p (λ v row. not (unit j)) → Negates ws c d → HasTruth ws p (join_at j ws c d)
  denied_left p c d h n =
      in_place ws p (λ v row. not (unit j)) (join_at j ws c d) h
      (λ v row. join_denial j (truth_at ws d v row) ∙ sym (ap (λ b. join j b (truth_at ws d v row)) (n.opposite v row)))

  pub denied_right : (p c d : ℕ) → HasTruth ws p (λ v row. not (unit j)) → Negates ws d c → HasTruth ws p (join_at j ws c d)
  denied_right p c d h n = swapped c d p (denied_left p d c h n)
