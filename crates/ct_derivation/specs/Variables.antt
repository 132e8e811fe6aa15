-- Clauses over numbered variables.
use Rattle.std.specs.Prelude.{◌≡◌, ℕ, zero, suc, ◌+◌, ◌≤◌, ℤ, pos, negsuc, Bool, true, false, not, ◌&&◌, List, nat_eq, nat_lt}
use Rattle.std.specs.List.{list_all}
use Rattle.ct_derivation.specs.declared.steps.Cnf.{Cnf}
use Rattle.ct_derivation.specs.Literal.{same_sign}
use Rattle.ct_derivation.specs.Propagation.{Literals}

-- a variable or its negation
pub record Signed : Type 0 where
  pub positive : Bool
  pub variable : ℕ

-- the literal that a number stands for: the variable of its size, with its sign
abbrev pub signed : ℤ → Signed
signed (pos n) = record { positive = true; variable = n }
signed (negsuc n) = record { positive = false; variable = n + 1 }

-- whether two literals over variables are the same
abbrev pub same_signed : Signed → Signed → Bool
same_signed l m = same_sign l.positive m.positive && nat_eq l.variable m.variable

-- the literals over variables
abbrev pub over_variables : Literals
over_variables = record { literal = Signed; same = same_signed; opposite = λ l. record { positive = not l.positive; variable = l.variable } }

-- whether the variable of a literal is from 1 to `vars`
abbrev pub is_literal : ℕ → ℤ → Bool
is_literal vars (pos zero) = false
is_literal vars (pos (suc n)) = nat_lt n vars
is_literal vars (negsuc n) = nat_lt n vars

-- whether the variables of a clause are from 1 to `vars`
unfoldable pub is_clause : ℕ → List ℤ → Bool
is_clause vars c = list_all (is_literal vars) c

-- the largest variable of which the negative is a literal too
abbrev pub LARGEST : ℕ
LARGEST = 2147483647

-- fewer than 2^31 variables, and no literal but of these
pub record IsCnf (cnf : Cnf) : Type 0 where
  pub vars : cnf.vars ≤ LARGEST
  pub clauses : list_all (is_clause cnf.vars) cnf.clauses ≡ true
