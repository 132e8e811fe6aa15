-- What a table of marks holds, and what the look at a clause finds.
use Rattle.std.specs.Prelude.{ℕ, List}
use Rattle.ct_derivation.specs.declared.literals.Lit.{Lit}
use Rattle.ct_derivation.specs.Propagation as propagation
use Rattle.ct_checker.specs.declared.propagation.Look.{Look}
use Rattle.ct_checker.specs.declared.propagation.Look.TheVariants as look

-- the literals that are marked as false, and how many there may be
pub record Marked : Type 0 where
  pub room : ℕ
  pub falses : List Lit

-- what a clause is under false literals
abbrev pub look_of : Look → propagation.Look Lit
look_of look.Unfit = propagation.Unfit
look_of look.Falsified = propagation.Falsified
look_of (look.Forces l) = propagation.Forces l
