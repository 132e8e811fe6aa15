-- What an encoding of a question is: its atoms, and the reason of each clause.
use Rattle.std.specs.Prelude.{◌≡◌, ◌<◌, ◌-◌, ℕ, ℤ, Bool, true, List, [], ◌∷◌, map, length, Option, Some, None, slice_get, slice_index_or, Contains}
use Rattle.ct_word.specs.declared.kinds.Kind.TheVariants as kind
use Rattle.ct_word.specs.declared.kinds.Class.TheVariants as class
use Rattle.ct_word.specs.Word.{kind_of, left_of, right_of}
use Rattle.ct_word.specs.WellFormed.{is_place_of}
use Rattle.ct_word.specs.Stands.{Below}
use Rattle.ct_derivation.specs.declared.literals.Atom.{Atom}
use Rattle.ct_derivation.specs.declared.literals.Atom.TheVariants as atom
use Rattle.ct_derivation.specs.declared.literals.Lit.{Lit}
use Rattle.ct_derivation.specs.declared.steps.Why.{Why}
use Rattle.ct_derivation.specs.declared.steps.Why.TheVariants as why
use Rattle.ct_derivation.specs.Literal.{Clause, yes_of}
use Rattle.ct_derivation.specs.Definition.{definition}
use Rattle.ct_derivation.specs.Models.{is_satisfied}
use Rattle.ct_derivation.specs.Path.{path_clause}
use Rattle.ct_derivation.specs.Variables.{Signed, signed}

-- the atom of a variable, which is numbered from 1
abbrev pub atom_of : List Atom → ℕ → Atom
atom_of atoms v = slice_index_or atoms (v - 1) (atom.Node 0)

-- the literal over atoms that one over variables stands for
abbrev pub named : List Atom → Signed → Lit
named atoms l = record { positive = l.positive; atom = atom_of atoms l.variable }

-- the clause over atoms that one over variables stands for, literal by literal
abbrev pub through : List Atom → List ℤ → Clause
through atoms ls = map (λ l. named atoms (signed l)) ls

-- the clause of an origin; none where it follows from others
abbrev pub origin_clause : List ℕ → ℕ → Why → Option Clause
origin_clause words root why.Root = Some (yes_of (atom.Node root) ∷ [])
origin_clause words root (why.Def p k) = definition (slice_get words p) p k
origin_clause words root (why.Path ts) = path_clause words ts
origin_clause words root (why.Rup hints) = None

-- each clause is that of its origin, in order
abbrev pub AreOrigins : List ℕ → ℕ → List Atom → List (List ℤ) → List Why → Type 0
AreOrigins words root atoms clauses origins = map (origin_clause words root) origins ≡ map (λ ls. Some (through atoms ls)) clauses

-- the place of a condition that is the root or is reached from it
pub record IsConditionBelow (words : List ℕ) (root p : ℕ) : Type 0 where
  pub below : Below words root p
  pub condition : is_place_of words class.Cond p ≡ true

-- the place of a term that is reached from the root
pub record IsTermBelow (words : List ℕ) (root p : ℕ) : Type 0 where
  pub below : Below words root p
  pub term : is_place_of words class.Term p ≡ true

-- two terms that are reached from the root, the smaller place first
pub record IsPairBelow (words : List ℕ) (root s t : ℕ) : Type 0 where
  pub first : IsTermBelow words root s
  pub second : IsTermBelow words root t
  pub ordered : s < t

-- every clause that defines the root or a condition that is reached from it has its origin
abbrev pub HasDefinitions : List ℕ → ℕ → List Why → Type 0
HasDefinitions words root origins = (p k : ℕ) (c : Clause) → IsConditionBelow words root p → definition (slice_get words p) p k ≡ Some c → Contains origins (why.Def p k)

-- no origin is a path: equality is left to what is asked later
abbrev pub HasNoPaths : List Why → Type 0
HasNoPaths origins = (ts : List ℕ) → Contains origins (why.Path ts) → ⊥

-- the places of atoms stand below the root
abbrev pub HasNodesBelow : List ℕ → ℕ → List Atom → Type 0
HasNodesBelow words root atoms = (p : ℕ) → Contains atoms (atom.Node p) → IsConditionBelow words root p

abbrev pub HasPairsBelow : List ℕ → ℕ → List Atom → Type 0
HasPairsBelow words root atoms = (s t : ℕ) → Contains atoms (atom.Same s t) → IsPairBelow words root s t

-- the two terms of an equal word that is the root or is reached from it
pub record IsEqualityBelow (words : List ℕ) (root s t : ℕ) : Type 0 where
  pub place : ℕ
  pub condition : IsConditionBelow words root place
  pub word : ℕ
  pub there : slice_get words place ≡ Some word
  pub kind : kind_of word ≡ Some kind.Equal
  pub first : left_of word ≡ s
  pub second : right_of word ≡ t

-- each equality among the atoms is that of an equal word that is the root or is reached from it
abbrev pub HasOwnEqualities : List ℕ → ℕ → List Atom → Type 0
HasOwnEqualities words root atoms = (s t : ℕ) → Contains atoms (atom.Same s t) → IsEqualityBelow words root s t

-- and the equality of each of these words is among the atoms
abbrev pub HasEachEquality : List ℕ → ℕ → List Atom → Type 0
HasEachEquality words root atoms = (s t : ℕ) → IsEqualityBelow words root s t → Contains atoms (atom.Same s t)

-- no item stands twice
abbrev pub AreDistinct : {X : Type 0} → List X → Type 0
AreDistinct {X} xs = (i j : ℕ) (d : X) → i < length xs → j < length xs → slice_index_or xs i d ≡ slice_index_or xs j d → i ≡ j

-- an assignment of atoms satisfies the clause of each of these origins
abbrev pub SatisfiesOrigins : List ℕ → ℕ → (Atom → Bool) → List Why → Type 0
SatisfiesOrigins words root t origins = (w : Why) (c : Clause) → Contains origins w → origin_clause words root w ≡ Some c → is_satisfied t c ≡ true
