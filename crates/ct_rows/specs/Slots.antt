-- Which slot cells fall into.
use Rattle.std.specs.Prelude.{ℕ, ◌*◌, ◌/◌, ◌%◌, ◌^◌, List, bit_xor, fold}

-- a number with its upper half folded onto the lower one
abbrev pub folded : ℕ → ℕ
folded number = bit_xor number (number / 2 ^ 32)

-- the mix of the cells so far and one more
unfoldable pub mix_of : ℕ → ℕ → ℕ
mix_of mixed cell = folded (bit_xor mixed cell * 13787848793156543929 % 2 ^ 64)

-- the mix of cells
abbrev pub hash_of : List ℕ → ℕ
hash_of cells = fold mix_of 0 cells

-- the slot of cells among so many
unfoldable pub slot_of : ℕ → List ℕ → ℕ
slot_of slots cells = hash_of cells % slots
