-- What contracts see of a chain.
use Rattle.std.specs.Prelude.{◌≡◌, ◌≢◌, ◌<◌, ◌≤◌, ℕ, List, Some, slice_get, AllPairs}

-- how many words a chain has room for, and its words
pub record Chained : Type 0 where
  pub room : ℕ
  pub words : List ℕ

-- no word stands twice
abbrev pub AreDistinct : List ℕ → Type 0
AreDistinct words = AllPairs (λ x y. x ≢ y) words

-- how many keys a chain of keys has room for, and its keys
pub record Keyed : Type 0 where
  pub room : ℕ
  pub keys : List ℕ

-- the key stands nowhere at or past `from`
abbrev pub IsNoneFrom : List ℕ → ℕ → ℕ → Type 0
IsNoneFrom keys key from = (p : ℕ) → from ≤ p → slice_get keys p ≢ Some key

-- a place is the least one at or past `from` at which the key stands
pub record IsLeastFrom (keys : List ℕ) (key from place : ℕ) : Type 0 where
  pub past : from ≤ place
  pub stands : slice_get keys place ≡ Some key
  pub least : (p : ℕ) → from ≤ p → p < place → slice_get keys p ≢ Some key
