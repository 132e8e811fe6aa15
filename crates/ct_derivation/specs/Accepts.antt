-- When a derivation is accepted over words and a root.
use Rattle.std.specs.Prelude.{ℕ, max, ◌+◌, length, Bool, true, false, ◌&&◌, List, [], ◌∷◌, ◌++◌, map, Option, Some, None, nat_lt, slice_get, IsTrue}
use Rattle.std.specs.List.{list_all}
use Rattle.ct_word.specs.declared.kinds.Class.TheVariants as class
use Rattle.ct_word.specs.WellFormed.{is_place_of}
use Rattle.ct_derivation.specs.declared.literals.Atom.{Atom}
use Rattle.ct_derivation.specs.declared.literals.Atom.TheVariants as atom
use Rattle.ct_derivation.specs.declared.literals.Lit.{Lit}
use Rattle.ct_derivation.specs.declared.steps.Why.{Why}
use Rattle.ct_derivation.specs.declared.steps.Why.TheVariants as why
use Rattle.ct_derivation.specs.declared.steps.Step.{Step}
use Rattle.ct_derivation.specs.declared.steps.Derivation.{Derivation}
use Rattle.ct_derivation.specs.declared.steps.Proof.{Proof}
use Rattle.ct_derivation.specs.Literal.{Clause, yes_of, same_lit, same_members, negated}
use Rattle.ct_derivation.specs.Propagation.{Literals, follows}
use Rattle.ct_derivation.specs.Definition.{definition}
use Rattle.ct_derivation.specs.Path.{path_clause}

-- the literals of derivations
abbrev pub over_atoms : Literals
over_atoms = record { literal = Lit; same = same_lit; opposite = negated }

-- the clause of a step
abbrev pub clause_of : Step → Clause
clause_of s = s.clause

-- the clauses of steps
abbrev pub clauses_of : List Step → List Clause
clauses_of steps = map clause_of steps

-- whether each place of an atom is of its class, the smaller term first
unfoldable pub fits_atom : List ℕ → Atom → Bool
fits_atom words (atom.Node p) = is_place_of words class.Cond p
fits_atom words (atom.Same s t) = (is_place_of words class.Term s && is_place_of words class.Term t) && nat_lt s t

-- whether the atom of a literal fits
unfoldable pub fits_lit : List ℕ → Lit → Bool
fits_lit words l = fits_atom words l.atom

-- whether a clause has the members of this one, where there is one
abbrev pub is_clause : Option Clause → Clause → Bool
is_clause None ls = false
is_clause (Some ms) ls = same_members ls ms

-- whether a reason gives a clause, after earlier steps
unfoldable pub gives : List ℕ → ℕ → List Step → Why → Clause → Bool
gives words root earlier why.Root ls = same_members ls (yes_of (atom.Node root) ∷ [])
gives words root earlier (why.Def p k) ls = is_clause (definition (slice_get words p) p k) ls
gives words root earlier (why.Path ts) ls = is_clause (path_clause words ts) ls
gives words root earlier (why.Rup hs) ls = follows over_atoms (clauses_of earlier) ls hs

-- whether a step is right after earlier steps
unfoldable pub is_right : List ℕ → ℕ → List Step → Step → Bool
is_right words root earlier s = list_all (fits_lit words) s.clause && gives words root earlier s.why s.clause

-- whether each step is right after those before it
abbrev pub all_right : List ℕ → ℕ → List Step → List Step → Bool
all_right words root earlier [] = true
all_right words root earlier (s ∷ ss) = is_right words root earlier s && all_right words root (earlier ++ s ∷ []) ss

-- whether a clause is the empty one
abbrev pub is_empty : Clause → Bool
is_empty [] = true
is_empty (l ∷ ls) = false

-- whether there is a last step and its clause is empty
abbrev pub ends_empty : List Step → Bool
ends_empty [] = false
ends_empty (s ∷ []) = is_empty s.clause
ends_empty (s ∷ t ∷ ss) = ends_empty (t ∷ ss)

-- whether the root is a condition, each step is right, and the last clause is empty
unfoldable pub accepts : List ℕ → ℕ → Derivation → Bool
accepts words root d = (is_place_of words class.Cond root && all_right words root [] d.steps) && ends_empty d.steps

-- a derivation is accepted over words and a root
abbrev pub Accepts : List ℕ → ℕ → Derivation → Type 0
Accepts words root d = IsTrue (accepts words root d)

-- a proof is accepted over words
abbrev pub AcceptsProof : List ℕ → Proof → Type 0
AcceptsProof words p = Accepts words p.root p.derivation

-- the hints of a reason
abbrev pub hints_of : Why → List ℕ
hints_of (why.Rup hs) = hs
hints_of _ = []

-- the literals of a step and its hints together
abbrev pub width : Step → ℕ
width s = length s.clause + length (hints_of s.why)

-- the greatest width of these steps
abbrev pub widest_of : List Step → ℕ
widest_of [] = 0
widest_of (s ∷ ss) = max (width s) (widest_of ss)

-- the greatest width of a step of a derivation
abbrev pub widest : Derivation → ℕ
widest d = widest_of d.steps
