-- How far a walk down from roots has come.
use Rattle.std.specs.Prelude.{◌≡◌, ◌⊎◌, ℕ, ◌<◌, ◌≤◌, Bool, ◌||◌, List, length, nat_eq, IsTrue, slice_index_or, Contains}
use Rattle.std.specs.List.{list_any}
use Rattle.std.specs.Ordering.{nat_cmp}
use Rattle.std.specs.BTreeSet.{BTreeSet, contains}
use Rattle.ct_worlds.specs.Shape.{parts_at}
use Rattle.ct_worlds.specs.Below.{IsReached}

-- whether a set has a place
abbrev pub has : BTreeSet ℕ → ℕ → Bool
has places p = contains nat_cmp places p

-- these places were added to those before
abbrev pub AreAdded : (ℕ → Bool) → (ℕ → Bool) → List ℕ → Type 0
AreAdded old new ks = (k : ℕ) → new k ≡ (old k || list_any (nat_eq k) ks)

-- a place is among those passed, or waits
abbrev pub IsSeen : (ℕ → Bool) → List ℕ → ℕ → Type 0
IsSeen waits passed p = Contains passed p ⊎ IsTrue (waits p)

-- the reached conditions from a bound on were passed, in the order of their places, and what they and the roots lead to waits
pub record IsPassedTo (words roots : List ℕ) (bound : ℕ) (waits : ℕ → Bool) (passed : List ℕ) : Type 0 where
  pub waiting : (p : ℕ) → IsTrue (waits p) → IsReached words roots p
  pub lower : (p : ℕ) → IsTrue (waits p) → p < bound
  pub each : (p : ℕ) → Contains passed p → IsReached words roots p
  pub from : (p : ℕ) → Contains passed p → bound ≤ p
  pub rising : (i j d : ℕ) → i < j → j < length passed → slice_index_or passed i d < slice_index_or passed j d
  pub seeds : (p : ℕ) → Contains roots p → IsSeen waits passed p
  pub parts : (p q : ℕ) → Contains passed p → Contains (parts_at words p) q → IsSeen waits passed q
