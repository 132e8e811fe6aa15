-- Truths that are kept for places.
use Rattle.std.specs.Prelude.{◌≡◌, ◌<◌, ℕ, Bool, false, cond, not, List, [], ◌∷◌, length, take, nat_eq, IsTrue, slice_index_or, Contains}
use Rattle.ct_word.specs.declared.kinds.Class.TheVariants as class
use Rattle.ct_word.specs.Condition.{holds_at}
use Rattle.ct_word.specs.Connective.{join}
use Rattle.ct_word.specs.Reading.{condition_at, term_at}
use Rattle.ct_word.specs.Value.{World, at, same_value}
use Rattle.ct_word.specs.WellFormed.{is_place_of}
use Rattle.ct_worlds.specs.declared.holding.KnownTruths.{KnownTruths}
use Rattle.ct_worlds.specs.declared.shape.Shape.{Shape}
use Rattle.ct_worlds.specs.declared.shape.Shape.TheVariants as shape
use Rattle.ct_worlds.specs.Shape.{parts_at}

-- places in their order, each once
abbrev pub AreRising : List ℕ → Type 0
AreRising places = (i j d : ℕ) → i < j → j < length places → slice_index_or places i d < slice_index_or places j d

-- the truth that stands beside a place, or false
abbrev pub found : List ℕ → List Bool → ℕ → Bool
found (p ∷ ps) (b ∷ bs) q = cond (nat_eq p q) b (found ps bs q)
found _ _ q = false

-- the truth that is kept for a place, or false
abbrev pub found_in : KnownTruths → ℕ → Bool
found_in t q = found t.places.now t.known.items q

-- of each of these places the truth of its condition in a world
abbrev pub HaveTruths : List ℕ → World → List ℕ → (ℕ → Bool) → Type 0
HaveTruths words v places truths = (p : ℕ) → Contains places p → truths p ≡ holds_at v (condition_at words p)

-- the truth of a shape, by the truths of its parts
abbrev pub truth_by : List ℕ → World → (ℕ → Bool) → Shape → Bool
truth_by words v truths (shape.Literal b) = b
truth_by words v truths (shape.Equal s t) = same_value (at v [] (term_at words s)) (at v [] (term_at words t))
truth_by words v truths (shape.Not p) = not (truths p)
truth_by words v truths (shape.Joined j p q) = join j (truths p) (truths q)

-- places of conditions in their order, each after its parts
pub record ArePartsFirst (words places : List ℕ) : Type 0 where
  pub rising : AreRising places
  pub each : (p : ℕ) → Contains places p → IsTrue (is_place_of words class.Cond p)
  pub parts : (i d q : ℕ) → i < length places → Contains (parts_at words (slice_index_or places i d)) q → Contains (take i places) q
