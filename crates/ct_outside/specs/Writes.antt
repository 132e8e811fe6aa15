-- What a call wrote of its lines, one write a line.
use Rattle.std.specs.Prelude.{◌≤◌, ◌-◌, ℕ, List, [], ◌++◌, take, length, slice_index_or, flat_map, Option}
use Rattle.ct_outside.specs.Outside.{Added}

-- the bytes of lines, one line after the other
abbrev pub joined : List (List ℕ) → List ℕ
joined lines = flat_map (λ line. line) lines

-- the call of this number, from 1, failed: the lines before its own were added whole, and then a prefix of its own
pub record FailedAtCall (told now : Option (List ℕ)) (lines : List (List ℕ)) (call : ℕ) : Type 0 where
  pub some : 1 ≤ call
  pub within : call ≤ length lines
  pub added : (count : ℕ) × Added told now (joined (take (call - 1) lines) ++ take count (slice_index_or lines (call - 1) []))
