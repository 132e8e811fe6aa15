-- Clauses of one literal, for literals of the trail that rest on no decision.
use Rattle.std.specs.Prelude.{◌≡◌, ℕ, ◌<◌, true, List, [], ◌∷◌, ◌++◌, Some, length, slice_get, slice_set}
use Rattle.std.proofs.Math.IntN.{ℤ}
use Rattle.ct_trail.specs.declared.trail.Put.{Put}
use Rattle.ct_trail.specs.Literal.{Clause, numbered}
use Rattle.ct_trail.specs.Log.{clause_at}
use Rattle.ct_trail.specs.Standing.{Standing}
use Rattle.ct_trail.specs.declared.log.Entry.TheVariants as entry
use Rattle.ct_derivation.specs.Propagation.{follows}

-- the clause at a position has the literal alone
pub record IsAloneAt (log : List Clause) (position : ℕ) (l : ℤ) : Type 0 where
  pub within : position < length log
  pub alone : clause_at log position ≡ l ∷ []

-- the clause at a position has the literal at a place alone
pub record IsOwnReason (log : List Clause) (trail : List Put) (place position : ℕ) : Type 0 where
  pub put : Put
  pub there : slice_get trail place ≡ Some put
  pub alone : IsAloneAt log position put.literal

-- the clause that has the literal at a place alone follows by these hints; the literal has a reason
pub record IsUnitLesson (log : List Clause) (trail : List Put) (place : ℕ) (hints : List ℕ) : Type 0 where
  pub put : Put
  pub there : slice_get trail place ≡ Some put
  pub reason : ℕ
  pub reasoned : put.reason ≡ Some reason
  pub follows : follows numbered log (put.literal ∷ []) hints ≡ true

-- the literal at a place has a new clause of its own, which follows by these hints and is its reason
pub record HasUnit (old : Standing) (place : ℕ) (hints : List ℕ) (new : Standing) : Type 0 where
  pub put : Put
  pub there : slice_get old.trail place ≡ Some put
  pub is : new ≡ record {
    vars = old.vars;
    top = old.top;
    entries = old.entries ++ entry.Learned (record { clause = put.literal ∷ []; hints = hints }) ∷ [];
    trail = slice_set old.trail place (record { literal = put.literal; reason = Some (length old.entries) });
  }
