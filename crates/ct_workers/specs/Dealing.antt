-- Items dealt to rows like cards.
use Rattle.std.specs.Prelude.{◌<◌, ◌/◌, ◌%◌, ℕ, zero, suc, List, [], ◌∷◌, get_or, Option, None, IsSome}

-- the item at a place of a row, if there is one
abbrev pub item_at : {V A : Type 0} → (V → List (Option A)) → List V → ℕ → ℕ → Option A
item_at items [] row place = None
item_at items (r ∷ rows) zero place = get_or (items r) place None
item_at items (r ∷ rows) (suc row) place = item_at items rows row place

-- so many items are there, the first ones in the first place of each row, the next ones in the second, and so on
abbrev pub AreDealt : {V A : Type 0} → (V → List (Option A)) → List V → ℕ → ℕ → Type 0
AreDealt items rows width count = (q : ℕ) → q < count → IsSome (item_at items rows (q % width) (q / width))
