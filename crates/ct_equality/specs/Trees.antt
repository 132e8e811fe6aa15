-- Breadth-first trees over the terms, along true equalities.
use Rattle.std.specs.Prelude.{◌≡◌, ◌<◌, ◌≤◌, ◌^◌, ◌++◌, ℕ, Bool, true, List, Some, length, nat_eq, slice_index_or, slice_get}
use Rattle.std.specs.List.{IsDistinct}
use Rattle.ct_derivation.specs.declared.literals.Atom.{Atom}
use Rattle.ct_derivation.specs.Path.{pair_of}
use Rattle.ct_equality.specs.Terms.{is_among, is_end_of, terms_of}
use Rattle.ct_equality.specs.Ends.{Reaches}
use Rattle.ct_equality.specs.Assigned.{IsLink}

-- different terms, each but the first joined with an earlier one, its origin
pub record IsTree (atoms : List Atom) (truth : List Bool) (places origins : List ℕ) : Type 0 where
  pub count : length origins ≡ length places
  pub some : 0 < length places
  pub once : IsDistinct nat_eq places
  pub ends : (p : ℕ) → is_among places p ≡ true → is_end_of atoms p ≡ true
  pub earlier : (i : ℕ) → 0 < i → i < length places → slice_index_or origins i 0 < i
  pub links : (i : ℕ) → 0 < i → i < length places → IsLink atoms truth (slice_index_or places i 0) (slice_index_or places (slice_index_or origins i 0) 0)

-- places with more behind them
pub record Extends (old new : List ℕ) : Type 0 where
  pub more : List ℕ
  pub is : new ≡ old ++ more

-- each true equality of the first n atoms with this term leads to one of the places
abbrev pub LeadsInto : List Atom → List Bool → ℕ → ℕ → List ℕ → Type 0
LeadsInto atoms truth n p places =
    (k t : ℕ) → k < n → slice_get atoms k ≡ Some (pair_of p t) → slice_get truth k ≡ Some true → is_among places t ≡ true

-- true equalities with the first n places lead to places
abbrev pub IsExplored : List Atom → List Bool → ℕ → List ℕ → Type 0
IsExplored atoms truth n places = (i : ℕ) → i < n → LeadsInto atoms truth (length atoms) (slice_index_or places i 0) places

-- the places stand in a list that has room for all terms
pub record HasRoom (atoms : List Atom) (places words : List ℕ) (room : ℕ) : Type 0 where
  pub same : words ≡ places
  pub enough : length (terms_of atoms) ≤ room
  pub short : room < 2 ^ 32

-- a tree that grows from these places, where the true equalities of p have been followed whose ends stand before `from`
pub record IsGrowing (atoms : List Atom) (truth : List Bool) (keys others : List ℕ) (p from : ℕ) (old places origins : List ℕ) : Type 0 where
  pub tree : IsTree atoms truth places origins
  pub extends : Extends old places
  pub reached : Reaches keys others p from places

-- a tree of a class, where the first n places have been looked at
pub record IsExploring (atoms : List Atom) (truth : List Bool) (root n : ℕ) (places origins : List ℕ) : Type 0 where
  pub tree : IsTree atoms truth places origins
  pub first : slice_index_or places 0 0 ≡ root
  pub within : n ≤ length places
  pub explored : IsExplored atoms truth n places
