-- Tallies as numbers.
use Rattle.std.specs.Prelude.{ℕ, List, [], ◌∷◌}
use Rattle.ct_arena.specs.declared.tally.Tally.{Tally}

-- the numbers of tallies, in order
abbrev pub numbers_in : List Tally → List ℕ
numbers_in [] = []
numbers_in (t ∷ ts) = t.session ∷ t.made ∷ t.mine ∷ numbers_in ts
