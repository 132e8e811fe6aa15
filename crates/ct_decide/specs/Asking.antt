-- What a question has as it is asked, and what a path of terms adds to it.
use Rattle.std.specs.Prelude.{◌≡◌, ◌≢◌, ◌≤◌, ◌<◌, ◌⊎◌, ◌&&◌, ℕ, ℤ, Bool, true, false, List, [], ◌∷◌, ◌++◌, Option, Some, None, length, map, slice_index_or, Contains}
use Rattle.std.specs.List.{list_all, list_any, AllByRecursion, IsDistinct}
use Rattle.ct_word.specs.Value.{World, same_null}
use Rattle.ct_word.specs.Condition.{holds_at}
use Rattle.ct_word.specs.Reading.{condition_at}
use Rattle.ct_word.specs.Stands.{TermBelow}
use Rattle.ct_word.specs.declared.values.Term.TheVariants as term
use Rattle.ct_derivation.specs.declared.literals.Atom.{Atom}
use Rattle.ct_derivation.specs.declared.literals.Atom.TheVariants as atom
use Rattle.ct_derivation.specs.declared.literals.Lit.{Lit}
use Rattle.ct_derivation.specs.declared.steps.Why.{Why}
use Rattle.ct_derivation.specs.declared.steps.Why.TheVariants as why
use Rattle.ct_derivation.specs.Accepts.{Accepts}
use Rattle.ct_derivation.specs.Literal.{Clause, same_atom}
use Rattle.ct_derivation.specs.Path.{path_clause, pair_of, is_constant}
use Rattle.ct_derivation.specs.Variables.{is_clause, is_literal, signed, LARGEST}
use Rattle.ct_trail.specs.Log.{added_in}
use Rattle.ct_sat.specs.Log.{IsModelOf}
use Rattle.ct_cnf.specs.Encoding.{AreOrigins, HasDefinitions, AreDistinct, HasNodesBelow, HasPairsBelow, named, through}
use Rattle.ct_equality.specs.Assigned.{Gives, IsFalsePath}
use Rattle.ct_equality.specs.declared.closing.Closed.{Closed}
use Rattle.ct_equality.specs.declared.closing.Closed.TheVariants as closed
use Rattle.ct_decide.specs.declared.deciding.Decision.{Decision}
use Rattle.ct_decide.specs.declared.deciding.Decision.TheVariants as decision
use Rattle.ct_cut.specs.Cut.{IsCut}
use Rattle.ct_decide.specs.Decided.{IsValueOf}
use Rattle.ct_decide.specs.Counting.{models}
use Rattle.ct_decide.specs.declared.asking.Aim.{Aim}
use Rattle.ct_decide.specs.declared.asking.Asking.{Asking}
use Rattle.ct_decide.specs.declared.asking.Posed.{Posed}

-- these are among the origins: that the root holds, and each clause that defines it or what stands below it
pub record IsWhole (words : List ℕ) (root : ℕ) (origins : List Why) : Type 0 where
  pub asked : Contains origins why.Root
  pub definitions : HasDefinitions words root origins

-- clauses of a question, each with its origin, and the atom of each variable
pub record IsPosed (words : List ℕ) (aim : Aim) (p : Posed) : Type 0 where
  pub clauses : AreOrigins words aim.root p.atoms.items p.clauses.items p.origins.items
  pub within : list_all (is_clause (length p.atoms.items)) p.clauses.items ≡ true
  pub few : length p.atoms.items ≤ LARGEST
  pub whole : aim.whole ≡ true → IsWhole words aim.root p.origins.items
  pub distinct : AreDistinct p.atoms.items
  pub nodes : HasNodesBelow words aim.root p.atoms.items
  pub terms : HasPairsBelow words aim.root p.atoms.items

-- clauses of a question and paths, each with its origin, and the atoms of the first variables
pub record IsAsking (words : List ℕ) (aim : Aim) (a : Asking) : Type 0 where
  pub clauses : AreOrigins words aim.root a.atoms.items (added_in a.solver.entries) a.origins.items
  pub within : list_all (is_clause (length a.atoms.items)) (added_in a.solver.entries) ≡ true
  pub room : length a.atoms.items ≤ a.solver.vars
  pub count : a.vars ≡ a.solver.vars
  pub vars : a.solver.vars ≤ LARGEST
  pub whole : aim.whole ≡ true → IsWhole words aim.root a.origins.items
  pub distinct : AreDistinct a.atoms.items
  pub nodes : HasNodesBelow words aim.root a.atoms.items
  pub terms : HasPairsBelow words aim.root a.atoms.items

-- whether an atom is among these
abbrev pub is_atom : List Atom → Atom → Bool
is_atom atoms a = list_any (λ x. same_atom x a) atoms

-- each literal's atom is among these
abbrev pub HasAtoms : List Atom → Clause → Type 0
HasAtoms atoms c = list_all (λ (l : Lit). is_atom atoms l.atom) c ≡ true

-- an atom stands here among these
pub record IsPlaceOf (atoms : List Atom) (a : Atom) (k : ℕ) : Type 0 where
  pub within : k < length atoms
  pub is : slice_index_or atoms k (atom.Node 0) ≡ a

-- a path of terms whose clause is over these atoms
pub record IsPathOver (words : List ℕ) (atoms : List Atom) (path : List ℕ) : Type 0 where
  pub clause : Clause
  pub clause_is : path_clause words path ≡ Some clause
  pub there : HasAtoms atoms clause

-- the literal of the equality of two terms, or of its negation
pub record IsLiteralOf (atoms : List Atom) (positive : Bool) (s t : ℕ) (l : ℤ) : Type 0 where
  pub within : is_literal (length atoms) l ≡ true
  pub is : named atoms (signed l) ≡ record { positive = positive; atom = pair_of s t }

-- the clause of a path, over variables
pub record IsClauseOf (words : List ℕ) (atoms : List Atom) (path : List ℕ) (c : List ℤ) : Type 0 where
  pub within : is_clause (length atoms) c ≡ true
  pub is : path_clause words path ≡ Some (through atoms c)

-- a valuation with plain values, of nulls that stand below the root, which gives no null twice; where all is asked, the root
-- holds at it
pub record IsFound (words : List ℕ) (aim : Aim) (v : World) : Type 0 where
  pub holds : aim.whole ≡ true → holds_at v (condition_at words aim.root) ≡ true
  pub values : AllByRecursion (λ p. IsValueOf words aim.root p.1) v
  pub nulls : AllByRecursion (λ p. TermBelow words aim.root (term.Null p.0)) v
  pub once : IsDistinct same_null (map (λ p. p.0) v)

-- such a valuation, or a path whose clause the model makes false
abbrev pub ClosesAs : List ℕ → Aim → List Atom → List Bool → Closed → Type 0
ClosesAs words aim atoms model (closed.World v) = IsFound words aim v
ClosesAs words aim atoms model (closed.Path path) = IsFalsePath words atoms model path

-- one more clause, that of a path
pub record AddsPath (words : List ℕ) (path : List ℕ) (old new : Asking) : Type 0 where
  pub vars : new.solver.vars ≡ old.solver.vars
  pub atoms : new.atoms.items ≡ old.atoms.items
  pub clause : List ℤ
  pub is : IsClauseOf words old.atoms.items path clause
  pub added : added_in new.solver.entries ≡ added_in old.solver.entries ++ clause ∷ []

-- how many assignments satisfy the clauses that were added
abbrev pub left : Asking → ℕ
left a = models a.solver.vars (added_in a.solver.entries)

-- a model of what was added, that makes the clause of a path false
pub record Breaks (words : List ℕ) (a : Asking) (path : List ℕ) (m : List Bool) : Type 0 where
  pub model : IsModelOf a.solver.vars (added_in a.solver.entries) m
  pub path_false : IsFalsePath words a.atoms.items m path

-- where this model makes the clause of the path false, it is one no longer
abbrev pub RulesOut : List ℕ → List ℕ → List Bool → Asking → Asking → Type 0
RulesOut words path m old new = Breaks words old path m → left new < left old

-- the same clauses, and at most one more atom
pub record AddsAtom (old new : Asking) : Type 0 where
  pub solver : new.solver ≡ old.solver
  pub vars : new.vars ≡ old.vars
  pub origins : new.origins ≡ old.origins
  pub more : List Atom
  pub atoms : new.atoms.items ≡ old.atoms.items ++ more
  pub one : length more ≤ 1

-- and the atom is that of two terms, unless they are two constants
pub record AddsEnd (words : List ℕ) (old new : Asking) (s t : ℕ) (ended : Bool) : Type 0 where
  pub adds : AddsAtom old new
  pub is : ended ≡ (is_constant words s && is_constant words t)
  pub there : ended ≡ false → is_atom new.atoms.items (pair_of s t) ≡ true

-- where the model joins two terms by a third one, its clauses leave fewer models, or it joins the two as well
abbrev pub Closes : Asking → Asking → List Bool → Atom → Bool → Type 0
Closes old new m a ended = (left new < left old) ⊎ ((ended ≡ false) × IsModelOf new.solver.vars (added_in new.solver.entries) m × Gives new.atoms.items m true a)

-- a model makes the clause of a path of three terms true
abbrev pub IsKept : List Atom → List Bool → ℕ → ℕ → ℕ → Bool → Type 0
IsKept atoms m first middle last ended = ((ended ≡ false) × Gives atoms m true (pair_of first last)) ⊎ (Gives atoms m false (pair_of first middle) ⊎ Gives atoms m false (pair_of middle last))

-- the clause of a path of three terms, unless this model makes it true, with the atom of its ends unless they are two constants
pub record AddsTriangle (words : List ℕ) (aim : Aim) (m : List Bool) (old new : Asking) (first middle last : ℕ) (ended : Bool) : Type 0 where
  pub asking : IsAsking words aim new
  pub vars : new.solver.vars ≡ old.solver.vars
  pub more : List Atom
  pub atoms : new.atoms.items ≡ old.atoms.items ++ more
  pub one : length more ≤ 1
  pub fewer : left new ≤ left old
  pub is : ended ≡ (is_constant words first && is_constant words last)
  pub there : ended ≡ false → is_atom new.atoms.items (pair_of first last) ≡ true
  pub closes : IsModelOf old.solver.vars (added_in old.solver.entries) m → Gives old.atoms.items m true (pair_of first middle)
      → Gives old.atoms.items m true (pair_of middle last) → Closes old new m (pair_of first last) ended

-- a path of three terms whose equalities are atoms
pub record IsKnown (words : List ℕ) (atoms : List Atom) (first middle last : ℕ) : Type 0 where
  pub differ : first ≢ last
  pub begins : is_atom atoms (pair_of first middle) ≡ true
  pub goes_on : is_atom atoms (pair_of middle last) ≡ true
  pub ends : (is_constant words first && is_constant words last) ≡ false → is_atom atoms (pair_of first last) ≡ true

-- a path of three terms whose links are atoms
pub record IsNext (atoms : List Atom) (first middle last : ℕ) : Type 0 where
  pub differ : first ≢ last
  pub begins : is_atom atoms (pair_of first middle) ≡ true
  pub goes_on : is_atom atoms (pair_of middle last) ≡ true

-- such a valuation, or a derivation that the root holds at none, cut to what its end needs
abbrev pub FoundOf : List ℕ → Aim → Decision → Type 0
FoundOf words aim (decision.World v) = IsFound words aim v
FoundOf words aim (decision.Refuted d) = Accepts words aim.root d × IsCut words aim.root d

-- that, or a question that has fewer assignments left
abbrev pub RoundOf : List ℕ → Aim → Asking → Asking → Option Decision → Type 0
RoundOf words aim old new (Some d) = FoundOf words aim d
RoundOf words aim old new None = IsAsking words aim new × (left new < left old)
