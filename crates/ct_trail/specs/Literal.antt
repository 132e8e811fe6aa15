-- Literals over variables numbered from 1: a variable's number, or its negative.
use Rattle.std.specs.Prelude.{ℕ, zero, suc, Bool, true, false, List}
use Rattle.std.specs.List.{list_any}
use Rattle.std.specs.Ordering.{int_eq}
use Rattle.std.proofs.Math.IntN.{ℤ, pos, negsuc, neg_ℤ}
use Rattle.ct_derivation.specs.Propagation.{Literals}
pub use Rattle.ct_derivation.specs.Variables.{is_literal, LARGEST}
unfoldable pub use Rattle.ct_derivation.specs.Variables.{is_clause}

-- a clause: the literals of which one is to be true
abbrev pub Clause : Type 0
Clause = List ℤ

-- these literals, as a kind of literals
abbrev pub numbered : Literals
numbered = record { literal = ℤ; same = int_eq; opposite = neg_ℤ }

-- whether a literal is in a clause
unfoldable pub has : Clause → ℤ → Bool
has c l = list_any (int_eq l) c

-- how many variables are before that of a literal
abbrev pub place_of : ℤ → ℕ
place_of (pos zero) = 0
place_of (pos (suc n)) = n
place_of (negsuc n) = n

-- whether a literal is a variable, and not the negative of one
abbrev pub is_positive : ℤ → Bool
is_positive (pos zero) = false
is_positive (pos (suc n)) = true
is_positive (negsuc n) = false
