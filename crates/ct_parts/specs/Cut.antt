-- A list that stands in parts.
use Rattle.std.specs.Prelude.{◌≡◌, ℕ, ◌<◌, ◌≤◌, List, [], ◌∷◌, ◌++◌, length}

-- the items of the parts, one part after another
abbrev pub joined : {X : Type 0} → List (List X) → List X
joined [] = []
joined (p ∷ ps) = p ++ joined ps

-- each part has n items, but the last, which may have fewer; none is empty
abbrev pub IsCut : {X : Type 0} → ℕ → List (List X) → Type 0
IsCut n [] = Unit {0}
IsCut n (p ∷ ps) = (0 < length p) × (length p ≤ n) × (0 < length ps → length p ≡ n) × IsCut n ps
