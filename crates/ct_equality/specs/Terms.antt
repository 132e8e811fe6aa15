-- The terms of a question: the places in its equalities.
use Rattle.std.specs.Prelude.{◌≡◌, ◌<◌, ℕ, Bool, true, false, ◌||◌, List, [], ◌∷◌, nat_eq, nat_lt, if◌then◌else◌}
use Rattle.std.specs.List.{list_any}
use Rattle.ct_derivation.specs.declared.literals.Atom.{Atom}
use Rattle.ct_derivation.specs.declared.literals.Atom.TheVariants as atom

-- ascending places with one more, once
abbrev pub inserted : ℕ → List ℕ → List ℕ
inserted s [] = s ∷ []
inserted s (t ∷ ts) = if nat_lt s t then s ∷ t ∷ ts else (if nat_eq s t then t ∷ ts else t ∷ inserted s ts)

-- these places with those of the equalities among these atoms
abbrev pub terms_from : List ℕ → List Atom → List ℕ
terms_from ts [] = ts
terms_from ts (atom.Node p ∷ rest) = terms_from ts rest
terms_from ts (atom.Same s t ∷ rest) = terms_from (inserted t (inserted s ts)) rest

-- the places of the terms of the equalities among these atoms, ascending
abbrev pub terms_of : List Atom → List ℕ
terms_of atoms = terms_from [] atoms

-- whether a place is among these
abbrev pub is_among : List ℕ → ℕ → Bool
is_among ts p = list_any (nat_eq p) ts

-- each place is below those after it
abbrev pub AreAscending : List ℕ → Type 0
AreAscending [] = Unit {0}
AreAscending (t ∷ ts) = ((p : ℕ) → is_among ts p ≡ true → t < p) × AreAscending ts

-- whether a place is one of an atom's two
abbrev pub is_end : ℕ → Atom → Bool
is_end p (atom.Node q) = false
is_end p (atom.Same s t) = nat_eq p s || nat_eq p t

-- whether a place is one of a term of the equalities
abbrev pub is_end_of : List Atom → ℕ → Bool
is_end_of atoms p = list_any (is_end p) atoms
