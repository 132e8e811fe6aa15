-- The clauses of a part of a question.
use Rattle.std.specs.Prelude.{◌≡◌, ◌⊎◌, ℕ, ℤ, suc, true, false, List, ◌++◌, map, length, Contains}
use Rattle.ct_derivation.specs.declared.literals.Atom.{Atom}
use Rattle.ct_derivation.specs.declared.literals.Atom.TheVariants as atom
use Rattle.ct_derivation.specs.declared.literals.Lit.{Lit}
use Rattle.ct_derivation.specs.Literal.{Clause}
use Rattle.ct_derivation.specs.Variables.{is_literal, signed}
use Rattle.ct_cnf.specs.Encoding.{IsConditionBelow, IsPairBelow, named}
use Rattle.ct_decide.specs.declared.asking.Aim.{Aim}
use Rattle.ct_decide.specs.declared.part.Part.{Part}
use Rattle.ct_decide.specs.Asking.{IsPosed}

-- a condition, or an equality of terms, that stands below the root
abbrev pub IsAtomOf : List ℕ → ℕ → Atom → Type 0
IsAtomOf words root (atom.Node p) = IsConditionBelow words root p
IsAtomOf words root (atom.Same s t) = IsPairBelow words root s t

-- the atom of each literal is such
abbrev pub AreAtomsOf : List ℕ → ℕ → Clause → Type 0
AreAtomsOf words root c = (l : Lit) → Contains c l → IsAtomOf words root l.atom

-- the places of conditions that stand below the root
abbrev pub AreConditionsBelow : List ℕ → ℕ → List ℕ → Type 0
AreConditionsBelow words root places = (p : ℕ) → Contains places p → IsConditionBelow words root p

-- two places were put to these, or stood there
abbrev pub AddsTwo : List ℕ → List ℕ → ℕ → ℕ → Type 0
AddsTwo old new a b = (p : ℕ) → Contains new p → Contains old p ⊎ ((p ≡ a) ⊎ (p ≡ b))

-- a part of what stands below the root
abbrev pub part_of : ℕ → Aim
part_of root = record { root = root; whole = false }

-- the key of an atom
abbrev pub key_of : Atom → ℕ × ℕ
key_of (atom.Node p) = (0, p)
key_of (atom.Same s t) = (suc s, t)

-- clauses of a question, whose atoms have keys in their order
pub record IsPart (words : List ℕ) (aim : Aim) (p : Part) : Type 0 where
  pub posed : IsPosed words aim p.posed
  pub keys : p.keys.keys ≡ map key_of p.posed.atoms.items

-- perhaps more atoms
pub record AddsAtoms (old new : Part) : Type 0 where
  pub more : List Atom
  pub atoms : new.posed.atoms.items ≡ old.posed.atoms.items ++ more

-- a literal over variables stands for this one
pub record IsNamed (atoms : List Atom) (literal : Lit) (l : ℤ) : Type 0 where
  pub within : is_literal (length atoms) l ≡ true
  pub is : named atoms (signed l) ≡ literal
