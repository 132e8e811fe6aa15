-- How keys are found: by a number each, and by a list of the places of the nulls.
use Rattle.std.specs.Prelude.{◌≡◌, ℕ, ◌+◌, ◌<◌, ◌≤◌, ◌^◌, Bool, true, false, List, [], ◌∷◌, length, map, nat_eq, if◌then◌else◌}
use Rattle.ct_join.specs.declared.keys.Key.{Key}
use Rattle.ct_join.specs.declared.keys.Key.TheVariants as key
use Rattle.ct_join.specs.Pairs.{key_at}

-- the number that stands for a key: a null has 0, as a constant may have
abbrev pub number_of : Key → ℕ
number_of (key.Constant n) = n
number_of key.Null = 0

abbrev pub has_number : ℕ → Key → Bool
has_number n k = nat_eq n (number_of k)

abbrev pub is_null : Key → Bool
is_null (key.Constant n) = false
is_null key.Null = true

-- the places of the keys that pass a test, the first key being at `at`
abbrev pub places_from : (Key → Bool) → ℕ → List Key → List ℕ
places_from f at [] = []
places_from f at (k ∷ ks) = if f k then at ∷ places_from f (at + 1) ks else places_from f (at + 1) ks

-- a number for each key, and the places of the nulls
pub record IsIndex (keys : List Key) (numbers nulls : List ℕ) : Type 0 where
  pub few : length keys < 2 ^ 32
  pub numbered : numbers ≡ map number_of keys
  pub placed : nulls ≡ places_from is_null 0 keys

-- a place is the first one at or past `at` whose key passes a test, or the count of the keys where there is none
pub record IsNext (f : Key → Bool) (keys : List Key) (at place : ℕ) : Type 0 where
  pub past : at ≤ place
  pub within : place ≤ length keys
  pub none : (p : ℕ) → at ≤ p → p < place → f (key_at keys p) ≡ false
  pub stands : place < length keys → f (key_at keys place) ≡ true
