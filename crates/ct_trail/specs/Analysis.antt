-- The analysis of a false clause, along the trail.
use Rattle.std.specs.Prelude.{◌≡◌, ℕ, ◌<◌, ◌≤◌, ◌+◌, true, false, List, Some, None, take, slice_get}
use Rattle.std.proofs.Math.IntN.{neg_ℤ}
use Rattle.ct_trail.specs.declared.marks.Mark.{Mark}
use Rattle.ct_trail.specs.declared.trail.Put.{Put}
use Rattle.ct_trail.specs.declared.learning.Return.{Return}
use Rattle.ct_trail.specs.declared.analysis.Turn.{Turn}
use Rattle.ct_trail.specs.declared.analysis.Turn.TheVariants as turn
use Rattle.ct_trail.specs.Literal.{Clause, is_literal}
use Rattle.ct_trail.specs.Trail.{truths_of, IsPutBy}
use Rattle.ct_trail.specs.Marks.{mark_at, is_kept}

-- each literal could be put when it was its turn
pub record ArePut (vars : ℕ) (log : List Clause) (trail : List Put) : Type 0 where
  pub each : (i : ℕ) (p : Put) → slice_get trail i ≡ Some p → IsPutBy log (truths_of vars (take i trail)) p.literal p.reason

-- each literal has a variable to `vars`
pub record AreWithin (vars : ℕ) (trail : List Put) : Type 0 where
  pub each : (i : ℕ) (p : Put) → slice_get trail i ≡ Some p → is_literal vars p.literal ≡ true

-- no literal from one place to before another is kept
abbrev pub NoneKept : List Mark → List Put → ℕ → ℕ → Type 0
NoneKept marks trail from to = (i : ℕ) (p : Put) → from ≤ i → i < to → slice_get trail i ≡ Some p → is_kept (mark_at marks p.literal) ≡ false

-- the last place before another whose literal is kept
pub record IsLastKept (marks : List Mark) (trail : List Put) (end u : ℕ) : Type 0 where
  pub place : u < end
  pub put : Put
  pub there : slice_get trail u ≡ Some put
  pub kept : is_kept (mark_at marks put.literal) ≡ true
  pub none : NoneKept marks trail (u + 1) end

-- a decision at a place
pub record IsDecision (trail : List Put) (d : ℕ) : Type 0 where
  pub put : Put
  pub there : slice_get trail d ≡ Some put
  pub decided : put.reason ≡ None

-- a literal at a place, with its reason
pub record IsPutAt (trail : List Put) (place reason : ℕ) : Type 0 where
  pub put : Put
  pub there : slice_get trail place ≡ Some put
  pub reasoned : put.reason ≡ Some reason

-- a literal that is to be resolved
pub record IsToResolve (marks : List Mark) (trail : List Put) (end u k : ℕ) : Type 0 where
  pub last : IsLastKept marks trail end u
  pub reason : last.put.reason ≡ Some k

-- the last literal that is kept, with a decision between it and the others
pub record IsBack (marks : List Mark) (trail : List Put) (end : ℕ) (r : Return) : Type 0 where
  pub place : ℕ
  pub last : IsLastKept marks trail end place
  pub cut : r.cut ≤ place
  pub decision : IsDecision trail r.cut
  pub alone : NoneKept marks trail r.cut place
  pub literal : r.literal ≡ neg_ℤ last.put.literal

-- what is to be done about the literals before a place
abbrev pub TurnOf : List Mark → List Put → ℕ → Turn → Type 0
TurnOf marks trail end turn.Over = NoneKept marks trail 0 end
TurnOf marks trail end (turn.Back r) = IsBack marks trail end r
TurnOf marks trail end (turn.Resolve u k) = IsToResolve marks trail end u k
