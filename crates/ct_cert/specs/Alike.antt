-- Clauses and steps that every check takes alike.
use Rattle.std.specs.Prelude.{◌≡◌, Bool, Option, length, nat_lt}
use Rattle.std.specs.List.{list_all}
use Rattle.ct_derivation.specs.declared.literals.Lit.{Lit}
use Rattle.ct_derivation.specs.declared.steps.Step.{Step}
use Rattle.ct_derivation.specs.Literal.{Clause, has}
use Rattle.ct_derivation.specs.Propagation.{look}
use Rattle.ct_derivation.specs.Accepts.{over_atoms, is_empty}

-- two clauses have the same literals, and each look finds the same in both
pub record Alike (ls ms : Clause) : Type 0 where
  pub members : (l : Lit) → has ls l ≡ has ms l
  pub all : (p : Lit → Bool) → list_all p ls ≡ list_all p ms
  pub looks : (falses : Clause) (rest : Option Lit) → look over_atoms falses rest ls ≡ look over_atoms falses rest ms
  pub empty : is_empty ls ≡ is_empty ms

-- two steps have one reason, and clauses that are alike
pub record AreAlike (s t : Step) : Type 0 where
  pub clauses : Alike s.clause t.clause
  pub whys : s.why ≡ t.why

-- whether a clause is long enough for its repeats to matter
abbrev pub is_long : Step → Bool
is_long s = nat_lt 16 (length s.clause)
