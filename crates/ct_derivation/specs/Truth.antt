-- The truth of atoms, literals and clauses at a valuation.
use Rattle.std.specs.Prelude.{◌≡◌, ℕ, Bool, false, not, List, [], if◌then◌else◌}
use Rattle.std.specs.List.{list_any}
use Rattle.ct_word.specs.Value.{World, at, same_value}
use Rattle.ct_word.specs.Condition.{holds_at}
use Rattle.ct_word.specs.Reading.{condition_at, term_at}
use Rattle.ct_derivation.specs.declared.literals.Atom.{Atom}
use Rattle.ct_derivation.specs.declared.literals.Atom.TheVariants as atom
use Rattle.ct_derivation.specs.declared.literals.Lit.{Lit}
use Rattle.ct_derivation.specs.Literal.{Clause}

-- an atom is the truth of a condition, or the equality of the values of two terms
abbrev pub atom_holds : List ℕ → World → Atom → Bool
atom_holds words v (atom.Node p) = holds_at v (condition_at words p)
atom_holds words v (atom.Same s t) = same_value (at v [] (term_at words s)) (at v [] (term_at words t))

-- the truth of a literal
unfoldable pub lit_holds : List ℕ → World → Lit → Bool
lit_holds words v l = if l.positive then atom_holds words v l.atom else not (atom_holds words v l.atom)

-- a clause holds where one of its literals does
unfoldable pub clause_holds : List ℕ → World → Clause → Bool
clause_holds words v ls = list_any (lit_holds words v) ls

-- the condition at a place is false at every valuation
abbrev pub IsRefuted : List ℕ → ℕ → Type 0
IsRefuted words root = (v : World) → holds_at v (condition_at words root) ≡ false
