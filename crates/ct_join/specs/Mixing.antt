-- One number for several.
use Rattle.std.specs.Prelude.{ℕ, ◌+◌, ◌*◌, ◌%◌, ◌^◌}

-- a number mixed from two; that of 0 and a number is the number
unfoldable pub mixed : ℕ → ℕ → ℕ
mixed number last = (number * 2654435769 % 2 ^ 32 + last) % 2 ^ 32
