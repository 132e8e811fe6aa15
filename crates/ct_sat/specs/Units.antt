-- Ways from one literal that is taken as false to others, by clauses of one literal.
use Rattle.std.specs.Prelude.{◌≡◌, ◌⊎◌, ℕ, true, List, [], ◌∷◌, ◌++◌}
use Rattle.std.proofs.Math.IntN.{ℤ}
use Rattle.ct_derivation.specs.Propagation.{meets, are_hints}
use Rattle.ct_trail.specs.{Literal.{Clause, numbered, has}, Standing.Standing, Units.HasUnit}
use Rattle.ct_sat.specs.declared.units.Way.{Way}

-- the hints lead from one literal that is taken as false to those that are known
pub record Leads (log : List Clause) (l : ℤ) (w : Way) : Type 0 where
  pub hints : are_hints log w.hints.items ≡ true
  pub meets : (rest : List ℕ) → meets numbered log (l ∷ []) (w.hints.items ++ rest) ≡ meets numbered log w.known.items rest

-- a way that goes on to one more literal
pub record Goes (log : List Clause) (old new : Way) (m : ℤ) : Type 0 where
  pub leads : (l : ℤ) → Leads log l old → Leads log l new
  pub more : (x : ℤ) → has old.known.items x ≡ true → has new.known.items x ≡ true
  pub there : has new.known.items m ≡ true

-- a literal of the trail has a new clause of its own, or nothing changed
abbrev pub MayHaveUnit : Standing → Standing → Type 0
MayHaveUnit old new = (new ≡ old) ⊎ ((place : ℕ) × (hints : List ℕ) × HasUnit old place hints new)
