-- The summary of the sessions of generated scripts.
use Rattle.std.specs.Prelude.{ℕ, ◌+◌, List, [], ◌∷◌, ◌++◌, length, count_by, fold, Option, Some, None, unwrap_or, codes, decimal}
use Rattle.ct_transcript.specs.declared.reply.Reply.{Reply}
use Rattle.ct_transcript.specs.declared.reply.Reply.TheVariants as reply
use Rattle.ct_transcript.specs.declared.reply.SessionLog.{SessionLog}
use Rattle.ct_transcript.specs.declared.transcript.Transcript.{Transcript}
use Rattle.ct_transcript.specs.NodeText.{line}
use Rattle.ct_transcript.specs.Text.{answer_row_lines, printed_answer}
use Rattle.ct_run.specs.Runs.{is_refusal}

-- how many rows are printed under a Rows reply, a Possible reply and a Certain reply
abbrev pub rows_under : Reply → Option ℕ
rows_under (reply.Rows at plus answer) = Some (length (answer_row_lines answer.nodes (printed_answer answer) answer.rows))
rows_under _ = None

abbrev pub possible_under : Reply → Option ℕ
possible_under (reply.Possible at plus columns rows) = Some (length rows)
possible_under _ = None

abbrev pub certain_under : Reply → Option ℕ
certain_under (reply.Certain at plus columns rows) = Some (length rows)
certain_under _ = None

-- what a function gives of the last reply of which it gives anything, and 0 where there is none
abbrev pub of_last : (Reply → Option ℕ) → List Reply → ℕ
of_last under replies = fold (λ last reply. unwrap_or (under reply) last) 0 replies

-- the line of session s
abbrev pub session_line : ℕ → SessionLog → List ℕ
session_line s log = line
    (codes "session " ++ decimal s ++ codes ": " ++ decimal (length log.replies) ++ codes " statements, "
    ++ decimal (count_by is_refusal log.replies) ++ codes " refused, " ++ decimal (of_last rows_under log.replies) ++ codes " rows, "
    ++ decimal (of_last possible_under log.replies) ++ codes " possible, " ++ decimal (of_last certain_under log.replies) ++ codes " certain")

-- the lines of session s and those after it
abbrev pub session_lines : ℕ → List SessionLog → List (List ℕ)
session_lines s [] = []
session_lines s (log ∷ logs) = session_line s log ∷ session_lines (s + 1) logs

-- the summary of the transcript of scripts that were made with the number n
abbrev pub summary : ℕ → Transcript → List (List ℕ)
summary n t =
    line (codes "fill " ++ decimal n) ∷ session_lines 1 t.sessions ++ line (codes "commits " ++ decimal (length t.history)) ∷ []
