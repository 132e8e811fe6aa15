-- An assignment of atoms that satisfies the defining clauses of the conditions below a place.
use Rattle.std.specs.Prelude.{◌≡◌, ℕ, Bool, true, not, List, Option, Some, slice_get, if◌then◌else◌}
use Rattle.std.specs.List.{list_any}
use Rattle.ct_word.specs.declared.kinds.Kind.{Kind}
use Rattle.ct_word.specs.declared.kinds.Kind.TheVariants as kind
use Rattle.ct_word.specs.declared.kinds.Class.TheVariants as class
use Rattle.ct_word.specs.Word.{kind_of, left_of, right_of}
use Rattle.ct_word.specs.Value.{World}
use Rattle.ct_word.specs.WellFormed.{is_place_of}
use Rattle.ct_derivation.specs.declared.literals.Atom.{Atom}
use Rattle.ct_derivation.specs.declared.literals.Atom.TheVariants as atom
use Rattle.ct_derivation.specs.Literal.{Clause}
use Rattle.ct_derivation.specs.Definition.{definition}
use Rattle.ct_derivation.specs.Truth.{atom_holds}

-- whether a clause holds under an assignment of atoms
abbrev pub is_satisfied : (Atom → Bool) → Clause → Bool
is_satisfied t ls = list_any (λ l. if l.positive then t l.atom else not (t l.atom)) ls

-- that the fields of a condition are below
abbrev pub AreFieldsBelow : (ℕ → Bool) → Option Kind → ℕ → ℕ → Type 0
AreFieldsBelow below (Some kind.Not) a b = below a ≡ true
AreFieldsBelow below (Some kind.And) a b = (below a ≡ true) × (below b ≡ true)
AreFieldsBelow below (Some kind.Or) a b = (below a ≡ true) × (below b ≡ true)
AreFieldsBelow below _ a b = Unit {0}

-- the assignment satisfies the definitions of the conditions below, and agrees with the valuation on their equalities
pub record IsModel (words : List ℕ) (v : World) (t : Atom → Bool) (below : ℕ → Bool) : Type 0 where
  pub conditions : (p : ℕ) → below p ≡ true → is_place_of words class.Cond p ≡ true
  pub fields : (p w : ℕ) → below p ≡ true → slice_get words p ≡ Some w → AreFieldsBelow below (kind_of w) (left_of w) (right_of w)
  pub definitions : (p k : ℕ) (ls : Clause) → below p ≡ true → definition (slice_get words p) p k ≡ Some ls → is_satisfied t ls ≡ true
  pub equalities : (p w : ℕ) → below p ≡ true → slice_get words p ≡ Some w → kind_of w ≡ Some kind.Equal
      → t (atom.Same (left_of w) (right_of w)) ≡ atom_holds words v (atom.Same (left_of w) (right_of w))
