-- How many words the evaluation of a query appends at most.
use Rattle.std.specs.Prelude.{◌≤◌, ◌+◌, ℕ, Bool, List, [], ◌∷◌, map, sum_by, Result, Ok, Err, IfOk, Contains}
use Rattle.ct_word.specs.declared.values.Term.{Term}
use Rattle.ct_query.specs.Plain.{PlainQuery}
use Rattle.ct_query.specs.Fits.{IsColumnBelow}
use Rattle.ct_query.specs.Size.{rows_in, row_bound}
use Rattle.ct_query.specs.Terms.{query_terms}
use Rattle.ct_arena.specs.Seen.{Seen}
use Rattle.ct_condition.specs.Places.{new_literal_words}
use Rattle.ct_condition.specs.Writes.{PassWrites}
use Rattle.ct_plan.specs.Spent.{row_words}
use Rattle.ct_table.specs.Counting.{count_of}
use Rattle.ct_table.specs.Denotes.{TableView, heading_of}
use Rattle.ct_operators.specs.declared.table.CTable.{CTable}
use Rattle.ct_operators.specs.declared.error.TableError.{TableError}
use Rattle.ct_operators.specs.Refusals.{is_full}
use Rattle.ct_algebra.specs.Evaluates.{Evaluates}
use Rattle.ct_operators.specs.declared.error.TableError.TheVariants as fault

-- a bound on the rows of a query over tables
abbrev pub most_rows : List TableView → PlainQuery → ℕ
most_rows db q = row_bound (rows_in (map count_of db)) q

-- a bound on the words that its operators make of them
abbrev pub most_words : List TableView → PlainQuery → ℕ
most_words db q = row_words (map heading_of db) (rows_in (map count_of db)) q

-- each literal among these terms, which is one that is no column, passes
abbrev pub EachLiteral : (Term → Type 0) → List Term → Type 0
EachLiteral P terms = (t : Term) → IsColumnBelow 0 t → Contains terms t → P t

-- the words of those of these literals that have no place
abbrev pub unplaced : List ℕ → List Term → ℕ
unplaced words literals = sum_by (new_literal_words words) literals

-- what is left of the words that a call may make: those of the literals that have no place yet where it answered, and one
-- where the log is full
abbrev pub spared : {A : Type 0} → Result A TableError → ℕ → ℕ
spared (Ok x) n = n
spared (Err fault.Full) n = 1
spared (Err fault.Memory) n = 0

-- a call that names these terms writes at most those of its literals that have no place, and so many words besides. Of any
-- literals that have its own among them it puts each once: with those that are left it makes no more than had no place before
pub record GrowsWithin {A : Type 0} (cap : ℕ) (out : Result A TableError) (old now : Seen) (terms : List Term) (most : ℕ) : Type 0 where
  pub writes : PassWrites cap old now (unplaced old.words terms + most) (is_full out)
  pub grows : (literals : List Term) → EachLiteral (Contains literals) terms → now.made + spared out (unplaced now.words literals) ≤ old.made + unplaced old.words literals + most

-- a call answers a query over the words now, or is refused, and writes at most the words of the query
pub record Answers (cap : ℕ) (old now : Seen) (db : List TableView) (q : PlainQuery) (out : Result CTable TableError) : Type 0 where
  pub evaluates : IfOk out (Evaluates old.words now.words db q)
  pub grows : GrowsWithin cap out old now (query_terms q) (most_words db q)

-- a call makes at most the words of the literals among these terms that have no place, and so many more
abbrev pub SpendsWithin : List ℕ → ℕ → ℕ → List Term → ℕ → Type 0
SpendsWithin old before after terms most = (literals : List Term) → EachLiteral (Contains literals) terms → after ≤ before + unplaced old literals + most
