-- The text of replies and of a history, line by line.
use Rattle.std.specs.Prelude.{ℕ, ◌+◌, not, List, [], ◌∷◌, ◌++◌, map, filter, flat_map, nat_eq, slice_get, if◌then◌else◌, codes, decimal}
use Rattle.std.specs.List.{join_by}
use Rattle.ct_word.specs.declared.values.Term.{Term}
use Rattle.ct_word.specs.declared.values.Term.TheVariants as term
use Rattle.ct_rewrite.specs.declared.answer.Node.{Node}
use Rattle.ct_rewrite.specs.declared.answer.AnswerRow.{AnswerRow}
use Rattle.ct_rewrite.specs.declared.answer.PossibleRow.{PossibleRow}
use Rattle.ct_rewrite.specs.declared.answer.CertainRow.{CertainRow}
use Rattle.ct_query.specs.declared.action.Read.{Read}
use Rattle.ct_query.specs.declared.action.Read.TheVariants as read
use Rattle.ct_rewrite.specs.declared.history.Change.{Change}
use Rattle.ct_rewrite.specs.declared.history.Change.TheVariants as change
use Rattle.ct_rewrite.specs.declared.history.Commit.{Commit}
use Rattle.ct_transcript.specs.declared.reply.Answer.{Answer}
use Rattle.ct_transcript.specs.declared.reply.Reply.{Reply}
use Rattle.ct_transcript.specs.declared.reply.Reply.TheVariants as reply
use Rattle.ct_transcript.specs.declared.reply.Refusal.{Refusal}
use Rattle.ct_transcript.specs.declared.reply.Refusal.TheVariants as refusal
use Rattle.ct_transcript.specs.declared.reply.SessionLog.{SessionLog}
use Rattle.ct_print.specs.TermText.{in_parentheses, with_commas, term_text, cells_text, tuple_text, world_text}
use Rattle.ct_transcript.specs.NodeText.{Printed, line, printed, as_root, name_lines, unless_true, is_true_node, is_false_node}

-- a row's cells and its condition
abbrev pub row_text : List Node → List Printed → AnswerRow → List ℕ
row_text nodes ps r = cells_text r.cells ++ unless_true nodes ps (codes " if ") r.cond

-- the number of a transaction's own changes, where there are some
abbrev pub plus_text : ℕ → List ℕ
plus_text plus = if nat_eq plus 0 then [] else codes " plus " ++ decimal plus

-- the head of a list of rows
abbrev pub head_text : List ℕ → List (List ℕ) → ℕ → ℕ → List ℕ
head_text word columns at plus =
    word ++ codes " " ++ in_parentheses (with_commas (λ c. c) columns) ++ codes " at " ++ decimal at ++ plus_text plus

-- the line of the global condition, unless it is True
abbrev pub global_lines : List Node → List Printed → ℕ → List (List ℕ)
global_lines nodes ps k = if is_true_node (slice_get nodes k) then [] else line (codes "  worlds where " ++ as_root (slice_get ps k)) ∷ []

-- the lines of an answer's rows, those left out whose condition is False
abbrev pub answer_row_lines : List Node → List Printed → List AnswerRow → List (List ℕ)
answer_row_lines nodes ps rs = map (λ r. line (codes "  " ++ row_text nodes ps r)) (filter (λ r. not (is_false_node (slice_get nodes r.cond))) rs)

-- an answer's nodes as they are printed; its rows and its global condition refer to them
abbrev pub printed_answer : Answer → List Printed
printed_answer a = printed a.nodes (map (λ r. r.cond) a.rows ++ a.global ∷ [])

-- the lines of an answer below its head, over its printed nodes
abbrev pub answer_lines : Answer → List Printed → List (List ℕ)
answer_lines a ps = name_lines ps ++ global_lines a.nodes ps a.global ++ answer_row_lines a.nodes ps a.rows

-- the line of a possible row: its cells, and a world that shows it
abbrev pub possible_line : PossibleRow → List ℕ
possible_line r = line (codes "  " ++ cells_text r.cells ++ codes " in " ++ world_text r.world)

-- the line of a certain tuple
abbrev pub certain_line : CertainRow → List ℕ
certain_line r = line (codes "  " ++ tuple_text r.tuple ++ codes " absence refuted")

-- the name of a refusal
abbrev pub refusal_name : Refusal → List ℕ
refusal_name refusal.NotAStatement = codes "NotAStatement"
refusal_name refusal.TooDeep = codes "TooDeep"
refusal_name refusal.NumberRange = codes "NumberRange"
refusal_name refusal.InTransaction = codes "InTransaction"
refusal_name refusal.NoTransaction = codes "NoTransaction"
refusal_name refusal.UnknownTable = codes "UnknownTable"
refusal_name refusal.TableExists = codes "TableExists"
refusal_name refusal.UnknownColumn = codes "UnknownColumn"
refusal_name refusal.AmbiguousColumn = codes "AmbiguousColumn"
refusal_name refusal.DuplicateName = codes "DuplicateName"
refusal_name refusal.ColumnCount = codes "ColumnCount"
refusal_name refusal.TooLarge = codes "TooLarge"
refusal_name refusal.Full = codes "Full"
refusal_name (refusal.Inconsistent proof) = codes "Inconsistent"
refusal_name (refusal.Conflict table was now at) = codes "Conflict"
refusal_name refusal.Memory = codes "Memory"

-- a read as it is printed: a table by its name, or the worlds
abbrev pub read_text : Read → List ℕ
read_text (read.Table name) = name
read_text read.Worlds = codes "worlds"

-- what was read, its last commit when the transaction began, and a later one at a version
abbrev pub conflict_text : Read → ℕ → ℕ → ℕ → List ℕ
conflict_text table was now at =
    codes " " ++ read_text table ++ codes " was " ++ decimal was ++ codes " now " ++ decimal now ++ codes " at " ++ decimal at

-- what a refusal says after its name
abbrev pub refusal_rest : Refusal → List ℕ
refusal_rest (refusal.Conflict table was now at) = conflict_text table was now at
refusal_rest _ = []

-- the lines of a reply, the first without its statement's number
abbrev pub reply_lines : Reply → List ℕ × List (List ℕ)
reply_lines (reply.Begun at) = (codes "begun at " ++ decimal at, [])
reply_lines reply.RolledBack = (codes "rolled back", [])
reply_lines (reply.Pending at plus) = (codes "pending at " ++ decimal at ++ codes " plus " ++ decimal plus, [])
reply_lines (reply.Committed at) = (codes "committed " ++ decimal at, [])
reply_lines (reply.Nothing at) = (codes "nothing to commit at " ++ decimal at, [])
reply_lines (reply.Rows at plus answer) = (head_text (codes "rows") answer.columns at plus, answer_lines answer (printed_answer answer))
reply_lines (reply.Possible at plus columns rows) = (head_text (codes "possible") columns at plus, map possible_line rows)
reply_lines (reply.Certain at plus columns rows) = (head_text (codes "certain") columns at plus, map certain_line rows)
reply_lines (reply.Refused at why) = (codes "refused " ++ refusal_name why ++ refusal_rest why, [])

-- the lines of the reply to statement k
abbrev pub numbered : ℕ → List ℕ × List (List ℕ) → List (List ℕ)
numbered k ls = line (decimal k ++ codes " " ++ ls.0) ∷ ls.1

-- the lines of the replies to statement k and those after it
abbrev pub replies_from : ℕ → List Reply → List (List ℕ)
replies_from k [] = []
replies_from k (r ∷ rs) = numbered k (reply_lines r) ++ replies_from (k + 1) rs

-- the lines of session s and those after it
abbrev pub sessions_from : ℕ → List SessionLog → List (List ℕ)
sessions_from s [] = []
sessions_from s (l ∷ ls) = line (codes "session " ++ decimal s) ∷ replies_from 1 l.replies ++ sessions_from (s + 1) ls

-- the positions that a change refers to
abbrev pub references_of : Change → List ℕ
references_of (change.Create name columns) = []
references_of (change.Insert name rs) = map (λ r. r.cond) rs
references_of (change.Delete name c) = c ∷ []
references_of (change.Update name sets c) = c ∷ []
references_of (change.Assert c) = c ∷ []

-- the rows of an insertion
abbrev pub rows_text : List Node → List Printed → List AnswerRow → List ℕ
rows_text nodes ps [] = codes "nothing"
rows_text nodes ps (r ∷ rs) = join_by (row_text nodes ps) (codes "; ") (r ∷ rs)

-- a column that is set, and the term that it gets
abbrev pub set_text : ℕ × Term → List ℕ
set_text set = term_text (term.Column set.0) ++ codes " = " ++ term_text set.1

-- a change as it is printed
abbrev pub change_text : List Node → List Printed → Change → List ℕ
change_text nodes ps (change.Create name columns) = codes "create table " ++ name ++ codes " " ++ in_parentheses (with_commas (λ c. c) columns)
change_text nodes ps (change.Insert name rs) = codes "insert into " ++ name ++ codes " " ++ rows_text nodes ps rs
change_text nodes ps (change.Delete name c) = codes "delete from " ++ name ++ codes " where " ++ as_root (slice_get ps c)
change_text nodes ps (change.Update name sets c) =
    codes "update " ++ name ++ codes " set " ++ with_commas set_text sets ++ codes " where " ++ as_root (slice_get ps c)
change_text nodes ps (change.Assert c) = codes "assert " ++ as_root (slice_get ps c)

-- the lines of a commit's changes
abbrev pub change_lines : List Node → List Printed → List Change → List (List ℕ)
change_lines nodes ps cs = map (λ x. line (codes "  " ++ change_text nodes ps x)) cs

-- a commit's nodes as they are printed; its changes refer to them
abbrev pub printed_commit : Commit → List Printed
printed_commit c = printed c.nodes (flat_map references_of c.changes)

-- the lines of commit m, over its printed nodes
abbrev pub commit_lines : ℕ → Commit → List Printed → List (List ℕ)
commit_lines m c ps = line (decimal m ++ codes " by " ++ decimal c.session) ∷ name_lines ps ++ change_lines c.nodes ps c.changes

-- the lines of commit m and those after it
abbrev pub commits_from : ℕ → List Commit → List (List ℕ)
commits_from m [] = []
commits_from m (c ∷ cs) = commit_lines m c (printed_commit c) ++ commits_from (m + 1) cs

-- the lines of these sessions and this history
abbrev pub lines_of : List SessionLog → List Commit → List (List ℕ)
lines_of sessions history = sessions_from 1 sessions ++ line (codes "history") ∷ commits_from 1 history ++ line (codes "end") ∷ []

-- the text of these sessions and this history
abbrev pub text_of : List SessionLog → List Commit → List ℕ
text_of sessions history = flat_map (λ l. l) (lines_of sessions history)
