-- What is learned from a false clause.
use Rattle.std.specs.Prelude.{◌≡◌, ℕ, true, List, [], Option, Some, None, take, slice_get}
use Rattle.ct_trail.specs.declared.trail.Put.{Put}
use Rattle.ct_trail.specs.declared.learning.Return.{Return}
use Rattle.ct_trail.specs.declared.learning.Lesson.{Lesson}
use Rattle.ct_trail.specs.Literal.{Clause, is_clause, numbered}
use Rattle.ct_trail.specs.Assignment.{IsUnit}
use Rattle.ct_trail.specs.Trail.{truths_of}
use Rattle.ct_derivation.specs.Propagation.{follows}

-- a decision, before which the literal is the last one of the clause
pub record IsReturn (vars : ℕ) (trail : List Put) (c : Clause) (r : Return) : Type 0 where
  pub decision : Put
  pub there : slice_get trail r.cut ≡ Some decision
  pub decided : decision.reason ≡ None
  pub unit : IsUnit (truths_of vars (take r.cut trail)) c r.literal

-- where the search goes on; the clause is empty where it can't
abbrev pub IsReturnOf : ℕ → List Put → Clause → Option Return → Type 0
IsReturnOf vars trail c None = c ≡ []
IsReturnOf vars trail c (Some r) = IsReturn vars trail c r

-- the clause follows by its hints, has no variable past `top`, and is a unit once the trail is cut
pub record IsLesson (top : ℕ) (log : List Clause) (trail : List Put) (l : Lesson) : Type 0 where
  pub follows : follows numbered log l.clause.items l.hints.items ≡ true
  pub within : is_clause top l.clause.items ≡ true
  pub returns : IsReturnOf top trail l.clause.items l.back
