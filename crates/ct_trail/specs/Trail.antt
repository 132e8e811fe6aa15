-- The trail: the literals that are true, in the order in which they became so.
use Rattle.std.specs.Prelude.{◌≡◌, ℕ, true, List, [], ◌∷◌, Option, Some, None, take, replicate, slice_get}
use Rattle.std.proofs.Math.IntN.{ℤ}
use Rattle.ct_trail.specs.declared.assignment.Truth.{Truth}
use Rattle.ct_trail.specs.declared.assignment.Truth.TheVariants as truth
use Rattle.ct_trail.specs.declared.trail.Put.{Put}
use Rattle.ct_trail.specs.Literal.{Clause, is_literal}
use Rattle.ct_trail.specs.Assignment.{assigned, IsOpen}
use Rattle.ct_trail.specs.Look.{IsUnitAt}

-- the truths after these literals have become true, one after the other
abbrev pub after : List Truth → List Put → List Truth
after truths [] = truths
after truths (p ∷ ps) = after (assigned truths p.literal) ps

-- the truths that a trail gives
abbrev pub truths_of : ℕ → List Put → List Truth
truths_of vars trail = after (replicate vars truth.Open) trail

-- a literal is open, and where it has a reason it is the last literal of that clause
abbrev pub IsPutBy : List Clause → List Truth → ℤ → Option ℕ → Type 0
IsPutBy log truths l None = IsOpen truths l
IsPutBy log truths l (Some k) = IsUnitAt truths l log k

-- each literal could be put when it was its turn, and has no variable past `top`
pub record IsTrail (vars top : ℕ) (log : List Clause) (trail : List Put) : Type 0 where
  pub each : (i : ℕ) (p : Put) → slice_get trail i ≡ Some p → IsPutBy log (truths_of vars (take i trail)) p.literal p.reason
  pub narrow : (i : ℕ) (p : Put) → slice_get trail i ≡ Some p → is_literal top p.literal ≡ true
