-- Literals, and clauses as sets of literals.
use Rattle.std.specs.Prelude.{Bool, true, false, not, ◌&&◌, List, nat_eq}
use Rattle.std.specs.List.{list_any, list_all}
use Rattle.ct_derivation.specs.declared.literals.Atom.{Atom}
use Rattle.ct_derivation.specs.declared.literals.Atom.TheVariants as atom
use Rattle.ct_derivation.specs.declared.literals.Lit.{Lit}

-- a clause: the literals of which one is to hold
abbrev pub Clause : Type 0
Clause = List Lit

-- that an atom holds
abbrev pub yes_of : Atom → Lit
yes_of a = record { positive = true; atom = a }

-- that an atom does not hold
abbrev pub no_of : Atom → Lit
no_of a = record { positive = false; atom = a }

-- the opposite literal
abbrev pub negated : Lit → Lit
negated l = record { positive = not l.positive; atom = l.atom }

-- whether two signs are the same
abbrev pub same_sign : Bool → Bool → Bool
same_sign true b = b
same_sign false b = not b

-- whether two atoms are the same
abbrev pub same_atom : Atom → Atom → Bool
same_atom (atom.Node p) (atom.Node q) = nat_eq p q
same_atom (atom.Same s t) (atom.Same p q) = nat_eq s p && nat_eq t q
same_atom _ _ = false

-- whether two literals are the same
unfoldable pub same_lit : Lit → Lit → Bool
same_lit l m = same_sign l.positive m.positive && same_atom l.atom m.atom

-- whether a literal is among these
unfoldable pub has : List Lit → Lit → Bool
has ls l = list_any (same_lit l) ls

-- whether two clauses have the same members
unfoldable pub same_members : Clause → Clause → Bool
same_members ls ms = list_all (has ms) ls && list_all (has ls) ms
