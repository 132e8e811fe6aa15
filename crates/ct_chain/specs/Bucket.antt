-- Which bucket a number falls into.
use Rattle.std.specs.Prelude.{ℕ, ◌*◌, ◌/◌, ◌%◌, ◌^◌, bit_xor}

-- the upper half of a number folded onto the lower one, and the product with another
abbrev pub fold_mul : ℕ → ℕ → ℕ
fold_mul number factor = bit_xor number (number / 2 ^ 32) * factor % 2 ^ 64

-- the bucket of a number among so many: the upper half of its mix, scaled down
unfoldable pub bucket_of : ℕ → ℕ → ℕ
bucket_of buckets number = fold_mul (fold_mul number 13787848793156543929) 10723151780598845931 / 2 ^ 32 * buckets / 2 ^ 32
