-- How wide conditions are as they are printed.
use Rattle.std.specs.Prelude.{◌≡◌, ℕ, ◌+◌, ◌<◌, min, ◌&&◌, Bool, true, false, List, length, take, slice_index_or, nat_le, IsTrue, IsFalse}
use Rattle.std.specs.List.{list_all}
use Rattle.ct_word.specs.Condition.{Condition, And, Or}
use Rattle.ct_rewrite.specs.Sizes.{text_of, nest_of}
use Rattle.ct_print.specs.TermText.{term_text}
use Rattle.ct_csv.specs.declared.measuring.Size.{Size}

-- a number of 64 bits for a number: the greatest for all above
abbrev pub capped : ℕ → ℕ
capped n = min n 18446744073709551615

-- whether a condition is an And or an Or
abbrev pub is_run_condition : Condition → Bool
is_run_condition (And cs) = true
is_run_condition (Or cs) = true
is_run_condition _ = false

-- the size of a condition
abbrev pub size_of : Condition → Size
size_of c = record { bytes = capped (length (text_of term_text c)); nest = capped (nest_of c); is_run = is_run_condition c }

-- the size of a condition of so many bytes without parts
abbrev pub leaf : ℕ → Size
leaf n = record { bytes = n; nest = 0; is_run = false }

-- a size with parentheses round the text
abbrev pub closed : Size → Size
closed s = record { bytes = capped (s.bytes + 2); nest = capped (s.nest + 1); is_run = true }

-- the size of a condition as a part of another: an And or Or stands in parentheses
abbrev pub part_by : Bool → Size → Size
part_by true s = closed s
part_by false s = s

abbrev pub size_as_part : Size → Size
size_as_part s = part_by s.is_run s

-- whether a size is within both bounds of a file
abbrev pub fits : Size → Bool
fits s = nat_le s.bytes 65536 && nat_le s.nest 64

-- no text
abbrev pub nothing : Size
nothing = record { bytes = 0; nest = 0; is_run = false }

-- whether the size at a position is
abbrev pub fits_at : List Size → ℕ → Bool
fits_at sizes k = fits (slice_index_or sizes k nothing)

-- the first of these positions whose size is not has this number, from 1
pub record IsFirstPast (sizes : List Size) (positions : List ℕ) (number : ℕ) : Type 0 where
  pub index : ℕ
  pub number_is : number ≡ index + 1
  pub within : index < length positions
  pub before : IsTrue (list_all (fits_at sizes) (take index positions))
  pub past : IsFalse (fits_at sizes (slice_index_or positions index 0))
