-- Right decisions.
use Rattle.std.{proofs.Common.{◌≡◌, ◌⊎◌, ◌<◌, ℕ, true, List, [], ◌∷◌, refl, sym, subst, inl, inr}, specs.Prelude.IsTrue}
use Rattle.ct_word.{specs.Value.World, specs.Condition.holds_at, specs.Reading.condition_at, proofs.Items.{first_item, later_item}}
use Rattle.ct_word.specs.WellFormed.{IsWellFormed, is_place_of}
use Rattle.ct_worlds.{specs.Shape.IsEarlier, proofs.Shaped.part_earlier}
use Rattle.ct_near.{specs.Conjuncts.{AreBeside, IsAnd}, specs.Near.IsRepairedNear, proofs.Runs.and_parts_at}
use Rattle.ct_decide.specs.{Decided.{DecisionNear, DecisionOf}, declared.deciding.Decision.Decision}
use Rattle.ct_workers.specs.Right.{IsRight}
use Rattle.ct_decide.specs.declared.deciding.Decision.TheVariants as decision
use Rattle.ct_word.specs.declared.kinds.Class.TheVariants as class

-- a decision is right
pub decided_right : (words : List ℕ) (root : ℕ) (d : Decision) → DecisionOf words root d → IsRight words root d
decided_right words root (decision.World v) is = is.holds
decided_right words root (decision.Refuted d) is = is

-- and so is one near a known world
pub near_right : (words : List ℕ) (root : ℕ) (known : World) (d : Decision) → DecisionNear words root known d → IsRight words root d
near_right words root known (decision.World v) is = is.holds root (first_item [] root)
near_right words root known (decision.Refuted d) is = is

-- a world that was made so that a condition and those beside it hold
pub beside_holds : (words : List ℕ) (root one : ℕ) (own : List ℕ) (near v : World) → AreBeside words root one own → IsRepairedNear words (one ∷ own) near v → holds_at v (condition_at words root) ≡ true
beside_holds words root one own near v beside made = beside.enough v (made.holds one (first_item own one)) (λ p h. made.holds p (later_item own one p h))

-- a condition that an And names is an earlier one
pub and_earlier : (words : List ℕ) → IsWellFormed words → (p q a b : ℕ) → IsTrue (is_place_of words class.Cond p) → IsAnd words p a b → (q ≡ a) ⊎ (q ≡ b) → IsEarlier words p q
and_earlier words formed p q a b placed is of = part_earlier words p q formed placed (and_parts_at words p q a b is of)
