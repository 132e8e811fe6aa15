-- How a number is spelled: one to seven decimal digits.
use Rattle.std.specs.Prelude.{ℕ, Bool, ◌&&◌, List, length, Option, Some, None, nat_le, if◌then◌else◌, option_and_then}
use Rattle.std.specs.List.{list_all}
use Rattle.std.specs.Str.Parse.{digits_value}
use Rattle.ct_word.specs.Names.{is_digit}

-- whether a number is one of those from `least` to `most`
abbrev pub is_within : ℕ → ℕ → ℕ → Bool
is_within least most n = nat_le least n && nat_le n most

-- whether a text spells a number
abbrev pub is_number : List ℕ → Bool
is_number text = is_within 1 7 (length text) && list_all is_digit text

-- the number that a text spells
unfoldable pub number_of : List ℕ → Option ℕ
number_of text = if is_number text then Some (digits_value 10 text) else None

-- the number from `least` to `most` that a text spells
abbrev pub number_within : ℕ → ℕ → List ℕ → Option ℕ
number_within least most text =
    option_and_then (λ n. if is_within least most n then Some n else None) (number_of text)
