-- What the turns of a search find.
use Rattle.std.specs.Prelude.{◌≡◌, ℕ, ◌<◌, Bool, true, false, Option, Some, None}
use Rattle.std.proofs.Math.IntN.{ℤ}
use Rattle.ct_trail.specs.{Look.IsFalsifiedAt, Standing.{Standing, truths_now, log_now, can_decide, extended, worth_of}}
use Rattle.ct_sat.specs.declared.verdict.Found.{Found}
use Rattle.ct_sat.specs.Log.{State, AnswersFound}

-- the clause at the position is false, if there is one
abbrev pub ConflictOf : Standing → Option ℕ → Type 0
ConflictOf s None = Unit {0}
ConflictOf s (Some k) = IsFalsifiedAt (truths_now s) (log_now s) k

-- a literal without a truth was decided, or nothing was
abbrev pub Decides : Standing → Bool → Standing → Type 0
Decides old true new = (l : ℤ) × (can_decide old l ≡ true) × (new ≡ extended old l None)
Decides old false new = new ≡ old

-- what contracts see of a solver with this board
abbrev pub state_of : Standing → State
state_of s = record { vars = s.vars; entries = s.entries; failed = false }

-- what the search found is so, or its trail is worth more
abbrev pub TurnOf : Standing → Standing → Option Found → Type 0
TurnOf old new None = worth_of old < worth_of new
TurnOf old new (Some f) = AnswersFound (state_of new) f
