-- The conditions that stand below places.
use Rattle.std.specs.Prelude.{◌≡◌, ℕ, ◌<◌, true, List, length, slice_index_or, Contains}
use Rattle.ct_word.specs.declared.kinds.Class.TheVariants as class
use Rattle.ct_word.specs.WellFormed.{is_place_of}
use Rattle.ct_word.specs.Stands.{Below}

-- the place of a condition that is one of these, or is reached from one
pub record IsReached (words roots : List ℕ) (p : ℕ) : Type 0 where
  pub root : ℕ
  pub among : Contains roots root
  pub below : Below words root p
  pub condition : is_place_of words class.Cond p ≡ true

-- exactly the conditions that are reached, each once, in the order of their places
pub record AreBelow (words roots places : List ℕ) : Type 0 where
  pub rising : (i j d : ℕ) → i < j → j < length places → slice_index_or places i d < slice_index_or places j d
  pub each : (p : ℕ) → Contains places p → IsReached words roots p
  pub all : (p : ℕ) → IsReached words roots p → Contains places p
