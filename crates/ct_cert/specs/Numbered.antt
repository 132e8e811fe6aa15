-- Numbers of literals.
use Rattle.std.specs.Prelude.{◌≡◌, ◌<◌, ◌+◌, ◌*◌, ◌^◌, ℕ, Bool, true, false, List, [], ◌∷◌, ◌++◌, map, Contains}
use Rattle.std.specs.List.{IsDistinct}
use Rattle.ct_derivation.specs.declared.literals.Atom.{Atom}
use Rattle.ct_derivation.specs.declared.literals.Atom.TheVariants as atom
use Rattle.ct_derivation.specs.declared.literals.Lit.{Lit}
use Rattle.ct_derivation.specs.declared.steps.Step.{Step}
use Rattle.ct_derivation.specs.Literal.{Clause, has, same_lit}
use Rattle.ct_cert.specs.Alike.{is_long}

-- an atom names places below 2^31
abbrev pub IsLow : Atom → Type 0
IsLow (atom.Node p) = p < 2 ^ 31
IsLow (atom.Same s t) = (s < 2 ^ 31) × (t < 2 ^ 31)

-- so do the atoms of a clause
abbrev pub AreLow : Clause → Type 0
AreLow ls = (l : Lit) → Contains ls l → IsLow l.atom

-- a number for an atom
abbrev pub pair_of : Atom → ℕ
pair_of (atom.Node p) = p * 2 ^ 32 + 2 ^ 31
pair_of (atom.Same s t) = s * 2 ^ 32 + t

-- a number for a sign
abbrev pub sign_of : Bool → ℕ
sign_of true = 1
sign_of false = 0

-- a number for a literal
abbrev pub number_of : Lit → ℕ
number_of l = pair_of l.atom * 2 + sign_of l.positive

-- no literal stands twice in the second clause where the first one is long, and over low places
abbrev pub IsOnce : Step → Step → Type 0
IsOnce s t = is_long s ≡ true → AreLow s.clause → IsDistinct same_lit t.clause

-- where a literal is repeated, the numbers are those of the literals that are kept; else its own comes last
abbrev pub IsNoted : Lit → Clause → Bool → List ℕ → Type 0
IsNoted l kept true words = words ≡ map number_of kept
IsNoted l kept false words = (has kept l ≡ false) × (words ≡ map number_of kept ++ number_of l ∷ [])
