-- Facts of words that stay true as words are added.
use Rattle.std.specs.Prelude.{List, ℕ}
use mathlib.Core.List.{IsPrefix}
use Rattle.ct_word.specs.WellFormed.{IsWellFormed}

-- a fact holds of every well formed list of words that begins with these
abbrev pub Later : List ℕ → (List ℕ → Type 0) → Type 0
Later words P = (longer : List ℕ) → IsWellFormed longer → IsPrefix words longer → P longer
