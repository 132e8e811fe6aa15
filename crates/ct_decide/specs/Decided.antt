-- What a decision is.
use Rattle.std.specs.Prelude.{◌≡◌, ◌⊎◌, ℕ, true, List, [], ◌∷◌, map, ⊤}
use Rattle.std.specs.List.{AllByRecursion, IsDistinct}
use Rattle.ct_word.specs.declared.values.Value.{Value}
use Rattle.ct_word.specs.declared.values.Term.TheVariants as term
use Rattle.ct_word.specs.Value.{World, same_null}
use Rattle.ct_word.specs.Condition.{holds_at}
use Rattle.ct_word.specs.Reading.{condition_at}
use Rattle.ct_word.specs.Stands.{TermBelow}
use Rattle.ct_near.specs.Near.{IsOldElsewhere, IsRepairedNear}
use Rattle.ct_derivation.specs.Accepts.{Accepts}
use Rattle.ct_equality.specs.Valued.{IsNumbered}
use Rattle.ct_cut.specs.Cut.{IsCut}
use Rattle.ct_decide.specs.declared.deciding.Decision.{Decision}
use Rattle.ct_decide.specs.declared.deciding.Decision.TheVariants as decision

-- a constant that stands below the root, or `@k` with k below 2^28
abbrev pub IsValueOf : List ℕ → ℕ → Value → Type 0
IsValueOf words root x = TermBelow words root (term.Value x) ⊎ IsNumbered x

-- a valuation at which the root holds, with plain values, of nulls that stand below the root, which gives no null twice
pub record IsWorldAt (words : List ℕ) (root : ℕ) (v : World) : Type 0 where
  pub holds : holds_at v (condition_at words root) ≡ true
  pub values : AllByRecursion (λ p. IsValueOf words root p.1) v
  pub nulls : AllByRecursion (λ p. TermBelow words root (term.Null p.0)) v
  pub once : IsDistinct same_null (map (λ p. p.0) v)

-- a valuation at which the root holds, or a derivation that is accepted over the words and the root, whose atoms are of what
-- stands below the root, and each of whose steps but the last is a hint of a later one
abbrev pub DecisionOf : List ℕ → ℕ → Decision → Type 0
DecisionOf words root (decision.World v) = IsWorldAt words root v
DecisionOf words root (decision.Refuted d) = Accepts words root d × IsCut words root d

-- the same of a valuation whose values and nulls may be those of a known one; no null stands twice in it where none does there
abbrev pub DecisionNear : List ℕ → ℕ → World → Decision → Type 0
DecisionNear words root known (decision.World v) = IsRepairedNear words (root ∷ []) known v
DecisionNear words root known (decision.Refuted d) = Accepts words root d × IsCut words root d

-- a valuation of the question alone, or one that differs from the known one only at nulls that conditions beside the global one reach
abbrev pub IsWholeOrNear : List ℕ → ℕ → ℕ → List ℕ → World → Decision → Type 0
IsWholeOrNear words root global own known (decision.World v) = IsWorldAt words root v ⊎ IsOldElsewhere words global own known v
IsWholeOrNear words root global own known (decision.Refuted d) = ⊤
