-- Rows that answer a query, with the terms that a question about it asks about.
use Rattle.std.specs.Prelude.{◌≡◌, ◌<◌, ◌≤◌, ℕ, List, [], length, IfSome}
use Rattle.std.specs.List.{Contains}
use Rattle.ct_word.specs.declared.values.Term.{Term}
use Rattle.ct_word.specs.declared.values.CRow.{CRow}
use Rattle.ct_word.specs.Value.{World}
use Rattle.ct_word.specs.Sublist.{IsSublist}
use Rattle.ct_word.specs.Change.{PlainCommit}
use Rattle.ct_query.specs.Plain as plain
use Rattle.ct_query.specs.Plain.{PlainQuery, PlainAction}
use Rattle.ct_query.specs.declared.action.Ask.TheVariants as ask
use Rattle.ct_query.specs.Database.{SameSet}
use Rattle.ct_query.specs.Rows.{rows}
use Rattle.ct_query.specs.Worlds.{world}
use Rattle.ct_query.specs.Patterns.{pattern, count}
use Rattle.ct_query.specs.Size.{size}
use Rattle.ct_query.specs.Bounds.{nodes}
use Rattle.ct_algebra.specs.Evaluates.{limit}
use Rattle.ct_query.specs.Terms.{terms_asked}
use Rattle.ct_operators.specs.Tables.{cells_of, value_of_rows, AreRows}
use Rattle.ct_operators.specs.Terms.{RowsFrom}
use Rattle.ct_table.specs.Snapshot.{IsGlobal}
use Rattle.ct_algebra.specs.declared.error.EvalError.{EvalError}
use Rattle.ct_algebra.specs.declared.error.EvalError.TheVariants as eval
use Rattle.ct_certain.specs.declared.error.CertainError.{CertainError}
use Rattle.ct_certain.specs.declared.error.CertainError.TheVariants as fault
use Rattle.ct_transcript.specs.declared.reply.Refusal.{Refusal}
use Rattle.ct_transcript.specs.declared.reply.Refusal.TheVariants as refusal

-- the terms that a question about a query asks about, whatever it asks
abbrev pub terms_of_query : List PlainCommit → List PlainAction → PlainQuery → List Term
terms_of_query h actions q = terms_asked h actions (plain.Asks ask.Rows [] q)

-- rows of so many cells answer a query after a history and further actions, under a global condition: they are worth what
-- the query gives where a valuation is admitted, their cells are a part of its pattern, and their terms are asked about
pub record AnswersQuery (words : List ℕ) (global : ℕ) (h : List PlainCommit) (actions : List PlainAction) (q : PlainQuery) (width : ℕ) (rs : List CRow) : Type 0 where
  pub condition : IsGlobal words h actions global
  pub are : AreRows words width rs
  pub tuples : (v : World) → IfSome (world v h actions) (λ w. SameSet (value_of_rows words v rs) (rows v q w))
  pub part : IsSublist (cells_of words rs) (pattern h actions q)
  pub from : RowsFrom words rs (Contains (terms_of_query h actions q))

-- the refusal of a query that is not evaluated
abbrev pub unanswered : EvalError → Refusal
unanswered eval.TooLarge = refusal.TooLarge
unanswered eval.Full = refusal.Full
unanswered eval.Memory = refusal.Memory

-- the refusal of a question whose rows are not listed
abbrev pub unlisted : CertainError → Refusal
unlisted fault.Full = refusal.Full
unlisted fault.Memory = refusal.Memory

-- why a query is not evaluated, at what a statement sees: it is too large, the log is full, or memory is wanting
abbrev pub IsUnasked : List PlainCommit → List PlainAction → ℕ → List ℕ → PlainQuery → Refusal → Type 0
IsUnasked h before room words q refusal.TooLarge = limit < size (count h before) q
IsUnasked h before room words q refusal.Full = (length words ≡ room) × (1 ≤ nodes (count h before) q)
IsUnasked h before room words q refusal.Memory = Unit {0}
IsUnasked h before room words q _ = ⊥
