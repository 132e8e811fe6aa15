-- Where the statement texts of a script stand, and the lines and columns of its places.
use Rattle.std.specs.Prelude.{◌≡◌, ℕ, ◌+◌, Bool, true, false, ◌&&◌, List, [], ◌∷◌, ◌++◌, length, take, fold, count_by, nat_eq, nat_le, if◌then◌else◌}
use Rattle.ct_lex.specs.Spelling.{is_blank, is_comment_byte}
use Rattle.ct_lex.specs.Texts.{begins_comment, has_token, pieces}
use Rattle.ct_remarks.specs.declared.places.Spot.{Spot}
use Rattle.ct_remarks.specs.declared.places.Placed.{Placed}

-- how many bytes stand before the first one that is neither blank nor in a comment; they begin in a comment or outside
abbrev pub lead_from : Bool → List ℕ → ℕ
lead_from in_comment [] = 0
lead_from true (b ∷ r) = lead_from (is_comment_byte b) r + 1
lead_from false (b ∷ r) = if begins_comment b r then lead_from true r + 1 else (if is_blank b then lead_from false r + 1 else 0)

-- how many bytes stand before the first token of a text
abbrev pub lead : List ℕ → ℕ
lead text = lead_from false text

-- a line end
abbrev pub is_line_end : ℕ → Bool
is_line_end b = nat_eq b 10

-- the line of a place: 1 and the number of line ends before it
abbrev pub line_at : List ℕ → ℕ → ℕ
line_at script place = 1 + count_by is_line_end (take place script)

-- whether a byte goes on in a character
abbrev pub is_inner : ℕ → Bool
is_inner b = nat_le 128 b && nat_le b 191

-- the column behind a byte of this column
abbrev pub column_after : ℕ → ℕ → ℕ
column_after column b = if is_line_end b then 1 else (if is_inner b then column else column + 1)

-- the column of a place: 1 and the number of characters before it in its line
abbrev pub column_at : List ℕ → ℕ → ℕ
column_at script place = fold column_after 1 (take place script)

-- a text with its place in the script, and that of its first token
pub record PlacedText : Type 0 where
  pub at : ℕ
  pub first : ℕ
  pub text : List ℕ

abbrev pub placed_text : ℕ → List ℕ → PlacedText
placed_text at text = record { at = at; first = at + lead text; text = text }

-- a piece at this place, where it has a token
abbrev pub placed_piece : ℕ → List ℕ → List PlacedText
placed_piece at piece = if has_token piece then placed_text at piece ∷ [] else []

-- those of the pieces that have tokens, the first of which stands at this place
abbrev pub placed_from : ℕ → List (List ℕ) → List PlacedText
placed_from at [] = []
placed_from at (piece ∷ others) = placed_piece at piece ++ placed_from (at + (length piece + 1)) others

-- the statement texts of a script with their places
abbrev pub placed : List ℕ → List PlacedText
placed script = placed_from 0 (pieces script)

-- a text as the program keeps it
abbrev pub placed_of : Placed → PlacedText
placed_of t = record { at = t.at; first = t.first; text = t.text.now }

-- a spot has the line and the column of its place
pub record IsSpot (script : List ℕ) (s : Spot) : Type 0 where
  pub line : s.line ≡ line_at script s.at
  pub column : s.column ≡ column_at script s.at
