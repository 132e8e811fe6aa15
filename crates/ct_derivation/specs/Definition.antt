-- The clauses that define the condition at a place by those at its fields (Tseitin).
use Rattle.std.specs.Prelude.{ℕ, zero, suc, [], ◌∷◌, Option, Some, None}
use Rattle.ct_word.specs.declared.kinds.Kind.{Kind}
use Rattle.ct_word.specs.declared.kinds.Kind.TheVariants as kind
use Rattle.ct_word.specs.Word.{kind_of, left_of, right_of}
use Rattle.ct_derivation.specs.declared.literals.Atom.TheVariants as atom
use Rattle.ct_derivation.specs.Literal.{Clause, yes_of, no_of}

-- clause k of the condition at p, of this kind and with the fields a and b
abbrev pub defining : Option Kind → ℕ → ℕ → ℕ → ℕ → Option Clause
defining (Some kind.True) zero p a b = Some (yes_of (atom.Node p) ∷ [])
defining (Some kind.False) zero p a b = Some (no_of (atom.Node p) ∷ [])
defining (Some kind.Equal) zero p a b = Some (no_of (atom.Node p) ∷ yes_of (atom.Same a b) ∷ [])
defining (Some kind.Equal) (suc zero) p a b = Some (yes_of (atom.Node p) ∷ no_of (atom.Same a b) ∷ [])
defining (Some kind.Not) zero p a b = Some (no_of (atom.Node p) ∷ no_of (atom.Node a) ∷ [])
defining (Some kind.Not) (suc zero) p a b = Some (yes_of (atom.Node p) ∷ yes_of (atom.Node a) ∷ [])
defining (Some kind.And) zero p a b = Some (no_of (atom.Node p) ∷ yes_of (atom.Node a) ∷ [])
defining (Some kind.And) (suc zero) p a b = Some (no_of (atom.Node p) ∷ yes_of (atom.Node b) ∷ [])
defining (Some kind.And) (suc (suc zero)) p a b = Some (yes_of (atom.Node p) ∷ no_of (atom.Node a) ∷ no_of (atom.Node b) ∷ [])
defining (Some kind.Or) zero p a b = Some (no_of (atom.Node p) ∷ yes_of (atom.Node a) ∷ yes_of (atom.Node b) ∷ [])
defining (Some kind.Or) (suc zero) p a b = Some (yes_of (atom.Node p) ∷ no_of (atom.Node a) ∷ [])
defining (Some kind.Or) (suc (suc zero)) p a b = Some (yes_of (atom.Node p) ∷ no_of (atom.Node b) ∷ [])
defining _ _ p a b = None

-- clause k of the condition whose word this is, at p
abbrev pub definition : Option ℕ → ℕ → ℕ → Option Clause
definition None p k = None
definition (Some w) p k = defining (kind_of w) k p (left_of w) (right_of w)
