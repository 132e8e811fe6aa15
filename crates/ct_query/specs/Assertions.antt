-- What assertions over queries and keys say of the tuples of a table.
use Rattle.std.specs.Prelude.{◌≡◌, ℕ, Bool, true, false, not, ◌&&◌, List, [], ◌∷◌, All, Contains, if◌then◌else◌}
use Rattle.std.specs.List.{list_all}
use Rattle.ct_word.specs.declared.values.Value.{Value}
use Rattle.ct_word.specs.Value.{same_value, same_tuple, cell_at}

-- whether there is a tuple
abbrev pub has_member : List (List Value) → Bool
has_member [] = false
has_member (t ∷ ts) = true

-- whether there is a tuple where one is wanted, or none where none is
abbrev pub as_wanted : Bool → List (List Value) → Bool
as_wanted wanted tuples = if wanted then has_member tuples else not (has_member tuples)

-- whether two tuples agree at these columns
abbrev pub agree : List ℕ → List Value → List Value → Bool
agree columns s t = list_all (λ k. same_value (cell_at s k) (cell_at t k)) columns

-- whether two tuples agree at these columns, and are different
abbrev pub clash : List ℕ → List Value → List Value → Bool
clash columns s t = agree columns s t && not (same_tuple s t)

-- whether no tuple of the first list agrees with a different one of the second
abbrev pub keep_apart : List ℕ → List (List Value) → List (List Value) → Bool
keep_apart columns ss ts = list_all (λ s. list_all (λ t. not (clash columns s t)) ts) ss

-- whether no two different tuples agree at these columns
abbrev pub is_key : List ℕ → List (List Value) → Bool
is_key columns ts = keep_apart columns ts ts

-- the same as a fact: tuples that agree at these columns are one
abbrev pub IsKey : List ℕ → List (List Value) → Type 0
IsKey columns ts = (s t : List Value) → Contains ts s → Contains ts t → All (λ k. cell_at s k ≡ cell_at t k) columns → s ≡ t
