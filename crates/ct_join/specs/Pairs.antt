-- Which keys may be of one value, and the places of such keys.
use Rattle.std.specs.Prelude.{ℕ, Bool, true, List, length, map, get_or, nat_eq, filter, flat_map}
use Rattle.std.specs.List.{range_with_len}
use Rattle.ct_join.specs.declared.keys.Key.{Key}
use Rattle.ct_join.specs.declared.keys.Key.TheVariants as key

-- two keys may be of one value: they are not two different constants
abbrev pub may_agree : Key → Key → Bool
may_agree (key.Constant a) (key.Constant b) = nat_eq a b
may_agree _ _ = true

-- the key at a place
abbrev pub key_at : List Key → ℕ → Key
key_at keys place = get_or keys place key.Null

-- the places below a number
abbrev pub places_below : ℕ → List ℕ
places_below n = range_with_len 0 n

-- all pairs of a left and a right place, left first
abbrev pub all_pairs : ℕ → ℕ → List (ℕ × ℕ)
all_pairs m n = flat_map (λ i. map (λ j. (i, j)) (places_below n)) (places_below m)

-- the pairs of places whose keys may be of one value
abbrev pub candidates : List Key → List Key → List (ℕ × ℕ)
candidates left right = filter (λ p. may_agree (key_at left p.0) (key_at right p.1)) (all_pairs (length left) (length right))

-- the places of the keys that may be of one value with a key
abbrev pub partners : Key → List Key → List ℕ
partners k keys = filter (λ j. may_agree k (key_at keys j)) (places_below (length keys))
