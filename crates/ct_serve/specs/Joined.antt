-- Lists that are made in parts.
use Rattle.std.specs.Prelude.{ℕ, nat_eq, min, ◌+◌, ◌-◌, ◌*◌, ◌/◌, List, [], length, take, drop, ◌∷◌, ◌++◌, Result, Ok, if◌then◌else◌}

-- all parts were made, and these are their items, part after part
pub data AreJoined {V E X : Type 0} (items : V → List X) : List (Result V E) → List X → Type 0 where
  none : AreJoined items [] []
  more : (parts : List (Result V E)) (xs : List X) (part : V) → AreJoined items parts xs → AreJoined items (parts ++ Ok part ∷ []) (xs ++ items part)

-- the place at which part k begins, of so many parts of a list of this length; the last one ends where the list does
abbrev pub bound_of : ℕ → ℕ → ℕ → ℕ
bound_of len parts k = if nat_eq k parts then len else min (k * (len / parts)) len

-- the items of part k
abbrev pub part_of : {X : Type 0} → ℕ → ℕ → List X → List X
part_of parts k xs = take (bound_of (length xs) parts (k + 1) - bound_of (length xs) parts k) (drop (bound_of (length xs) parts k) xs)
