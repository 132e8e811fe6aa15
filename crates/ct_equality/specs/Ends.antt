-- The ends of the true equalities, each with the other one.
use Rattle.std.specs.Prelude.{◌≡◌, ◌<◌, ℕ, Bool, true, List, length, Some, slice_get, slice_index_or}
use Rattle.ct_derivation.specs.declared.literals.Atom.{Atom}
use Rattle.ct_derivation.specs.Path.{pair_of}
use Rattle.ct_equality.specs.Assigned.{IsLink}
use Rattle.ct_equality.specs.Terms.{is_among}

-- two terms stand as an end and the other one there
pub record StandsAsEnd (keys others : List ℕ) (p t : ℕ) : Type 0 where
  pub place : ℕ
  pub within : place < length keys
  pub key : slice_index_or keys place 0 ≡ p
  pub other : slice_index_or others place 0 ≡ t

-- the ends of the true equalities among the first n atoms
pub record AreEnds (atoms : List Atom) (truth : List Bool) (n : ℕ) (keys others : List ℕ) : Type 0 where
  pub count : length others ≡ length keys
  pub links : (i : ℕ) → i < length keys → IsLink atoms truth (slice_index_or keys i 0) (slice_index_or others i 0)
  pub all : (k p t : ℕ) → k < n → slice_get atoms k ≡ Some (pair_of p t) → slice_get truth k ≡ Some true → StandsAsEnd keys others p t

-- the other ends at the places of a term before `from` are among these places
abbrev pub Reaches : List ℕ → List ℕ → ℕ → ℕ → List ℕ → Type 0
Reaches keys others p from places = (i : ℕ) → i < from → i < length keys → slice_index_or keys i 0 ≡ p → is_among places (slice_index_or others i 0) ≡ true
