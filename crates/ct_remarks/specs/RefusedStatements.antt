-- The refused statements of a transcript.
use Rattle.std.specs.Prelude.{◌≡◌, ℕ, ◌+◌, ◌≤◌, List, [], ◌∷◌, ◌++◌, length, slice_get, Option, Some, None}
use Rattle.ct_transcript.specs.declared.reply.Refusal.{Refusal}
use Rattle.ct_transcript.specs.declared.reply.Reply.{Reply}
use Rattle.ct_transcript.specs.declared.reply.Reply.TheVariants as reply
use Rattle.ct_transcript.specs.declared.reply.SessionLog.{SessionLog}
use Rattle.ct_remarks.specs.declared.cases.Case as kept
use Rattle.ct_remarks.specs.Standing.{PlacedText, placed, placed_of, IsSpot}

-- a refused statement: the position of its session, its number in the script, its text, and why it was refused
pub record Case : Type 0 where
  pub session : ℕ
  pub number : ℕ
  pub script : List ℕ
  pub text : PlacedText
  pub why : Refusal

-- the statement at a position, where it has a text
abbrev pub refused : ℕ → ℕ → List ℕ → Refusal → Option PlacedText → List Case
refused session i script why (Some text) = record { session = session; number = i + 1; script = script; text = text; why = why } ∷ []
refused session i script why None = []

-- it, where the reply is a refusal
abbrev pub refused_by : ℕ → ℕ → List ℕ → List PlacedText → Reply → List Case
refused_by session i script texts (reply.Refused at why) = refused session i script why (slice_get texts i)
refused_by session i script texts _ = []

-- the refused statements of a session among those from position i on
abbrev pub cases_from : ℕ → ℕ → List ℕ → List PlacedText → List Reply → List Case
cases_from session i script texts [] = []
cases_from session i script texts (r ∷ rs) = refused_by session i script texts r ++ cases_from session (i + 1) script texts rs

-- the refused statements of these sessions, the first of which stands at this position
abbrev pub cases : ℕ → List SessionLog → List Case
cases session [] = []
cases session (log ∷ logs) = cases_from session 0 log.script (placed log.script) log.replies ++ cases (session + 1) logs

-- a refused statement as the program keeps it
abbrev pub case_of : kept.Case → Case
case_of c = record { session = c.session; number = c.number; script = c.script.now; text = placed_of c.text; why = c.why.now }

-- its first token stands within its text
pub record IsStanding (c : Case) : Type 0 where
  pub within : c.text.first ≤ c.text.at + length c.text.text

-- the spot that is kept is that of its first token
pub record IsMarked (c : kept.Case) : Type 0 where
  pub at : c.first.at ≡ c.text.first
  pub spot : IsSpot c.script.now c.first
