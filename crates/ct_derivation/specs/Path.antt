-- The clause of a path of terms: equality is transitive, and different constants differ.
use Rattle.std.specs.Prelude.{ℕ, Bool, true, not, ◌&&◌, List, [], ◌∷◌, ◌++◌, Option, Some, None, nat_eq, nat_lt, if◌then◌else◌}
use Rattle.std.specs.List.{list_all}
use Rattle.ct_word.specs.declared.kinds.Class.TheVariants as class
pub use Rattle.ct_word.specs.Constant.{is_constant_kind, is_constant_word}
unfoldable pub use Rattle.ct_word.specs.Constant.{is_constant}
use Rattle.ct_word.specs.WellFormed.{is_place_of}
use Rattle.ct_derivation.specs.declared.literals.Atom.{Atom}
use Rattle.ct_derivation.specs.declared.literals.Atom.TheVariants as atom
use Rattle.ct_derivation.specs.Literal.{Clause, yes_of, no_of}

-- the equality of two terms, the smaller place first
abbrev pub pair_of : ℕ → ℕ → Atom
pair_of s t = if nat_lt s t then atom.Same s t else atom.Same t s

-- the last place of a path that goes on from t
abbrev pub end_of : ℕ → List ℕ → ℕ
end_of t [] = t
end_of t (u ∷ us) = end_of u us

-- that the terms of some link of the path are not the same
abbrev pub no_links : ℕ → List ℕ → Clause
no_links t [] = []
no_links t (u ∷ us) = no_of (pair_of t u) ∷ no_links u us

-- whether each two neighbours are different places
abbrev pub moves : ℕ → List ℕ → Bool
moves t [] = true
moves t (u ∷ us) = not (nat_eq t u) && moves u us

-- that both ends are the same; left out where they are different constants
unfoldable pub ends_clause : List ℕ → ℕ → ℕ → Clause
ends_clause words s t = if is_constant words s && is_constant words t then [] else yes_of (pair_of s t) ∷ []

-- whether it is a path of terms with different neighbours and different ends
unfoldable pub is_path : List ℕ → ℕ → List ℕ → Bool
is_path words t us = (moves t us && not (nat_eq t (end_of t us))) && list_all (is_place_of words class.Term) (t ∷ us)

-- the clause of a path: a link does not hold, or the ends are the same
abbrev pub path_clause : List ℕ → List ℕ → Option Clause
path_clause words [] = None
path_clause words (t ∷ us) = if is_path words t us then Some (no_links t us ++ ends_clause words t (end_of t us)) else None
