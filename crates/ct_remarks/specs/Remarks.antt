-- Remarks on refused statements.
use Rattle.std.specs.Prelude.{◌≡◌, ℕ, ◌+◌, ◌-◌, ◌≤◌, Bool, true, false, ◌||◌, List, [], ◌∷◌, ◌++◌, length, map, take, slice_get, nat_eq, nat_le, nat_lt, IsFalse, Option, Some, None, codes, decimal, if◌then◌else◌}
use Rattle.std.specs.List.{AllZip}
use Rattle.ct_transcript.specs.Text.{refusal_name}
use Rattle.ct_transcript.specs.declared.reply.Refusal.{Refusal}
use Rattle.ct_transcript.specs.declared.reply.Refusal.TheVariants as refusal
use Rattle.ct_remarks.specs.Standing.{line_at, column_at}
use Rattle.ct_remarks.specs.RefusedStatements.{Case}

-- whether a byte is a control character, such as a line end
abbrev pub is_control : ℕ → Bool
is_control b = nat_lt b 32 || nat_eq b 127

-- a text without control characters: a question mark for each
abbrev pub shown : List ℕ → List ℕ
shown text = map (λ b. if is_control b then 63 else b) text

-- the name of a session: that of its file, or else its number
abbrev pub session_name : ℕ → Option (List ℕ) → List ℕ
session_name session (Some name) = name
session_name session None = codes "session " ++ decimal (session + 1)

-- what a remark on a refused statement begins with, where it points to this place
abbrev pub head : List (List ℕ) → Case → ℕ → List ℕ
head names c place =
    shown (session_name c.session (slice_get names c.session)) ++ codes ":" ++ decimal (line_at c.script place) ++ codes ":" ++ decimal (column_at c.script place)
    ++ codes ": statement " ++ decimal c.number ++ codes " refused " ++ refusal_name c.why ++ codes ": "

-- whether it was refused before its names were looked at
abbrev pub is_unread : Refusal → Bool
is_unread refusal.NotAStatement = true
is_unread refusal.TooDeep = true
is_unread refusal.NumberRange = true
is_unread _ = false

-- a remark points to the first token; only where the text could not be read, perhaps to what stands behind it there
pub record IsPlace (c : Case) (place : ℕ) : Type 0 where
  pub not_before : c.text.first ≤ place
  pub within : place ≤ c.text.at + length c.text.text
  pub first : IsFalse (is_unread c.why) → place ≡ c.text.first

-- a line is a remark on a refused statement: a head and a sentence
pub record IsRemark (names : List (List ℕ)) (c : Case) (line : List ℕ) : Type 0 where
  pub place : ℕ
  pub is_place : IsPlace c place
  pub sentence : List ℕ
  pub is : line ≡ head names c place ++ shown sentence

-- the line that says how many more there are than 100
abbrev pub more_lines : ℕ → List (List ℕ)
more_lines n = if nat_le n 100 then [] else (decimal (n - 100) ++ codes " more refused statements") ∷ []

-- lines are the remarks on the first 100 refused statements, and say how many more there are
pub record AreRemarks (names : List (List ℕ)) (cs : List Case) (lines : List (List ℕ)) : Type 0 where
  pub remarks : List (List ℕ)
  pub each : AllZip (IsRemark names) (take 100 cs) remarks
  pub are : lines ≡ remarks ++ more_lines (length cs)
