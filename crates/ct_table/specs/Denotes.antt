-- When tables denote a history and further actions: they are worth what these make, at every valuation that they admit.
use Rattle.std.specs.Prelude.{◌≡◌, ℕ, List, [], ◌∷◌, length, map, Option, Some, None, IfSome, IsTrue, All, if◌then◌else◌}
use Rattle.std.specs.List.{IsDistinct, Contains, list_all}
use Rattle.ct_word.specs.declared.values.Term.{Term}
use Rattle.ct_word.specs.declared.values.CRow.{CRow}
use Rattle.ct_word.specs.Value.{World, same_text}
use Rattle.ct_word.specs.Sublist.{IsSublist}
use Rattle.ct_word.specs.Change.{PlainChange, PlainCommit}
use Rattle.ct_word.specs.Writable.{is_writable}
use Rattle.ct_query.specs.declared.schema.Heading.{Heading}
use Rattle.ct_query.specs.declared.action.Read.{Read}
use Rattle.ct_query.specs.declared.action.Read.TheVariants as read
use Rattle.ct_query.specs.Plain.{Table, PlainAction}
use Rattle.ct_query.specs.Database.{Database, SameDatabase}
use Rattle.ct_query.specs.Worlds.{world, changes_of}
use Rattle.ct_query.specs.Patterns.{pattern}
use Rattle.ct_query.specs.Schema.{schema}
use Rattle.ct_query.specs.Reads.{writes}
use Rattle.ct_query.specs.Frame.{reads_of_actions}
use Rattle.ct_query.specs.Terms.{change_terms, action_terms}
use Rattle.ct_operators.specs.Tables.{cells_of, value_of_rows, AreRows}
use Rattle.ct_operators.specs.Terms.{RowsFrom}

-- a table with its name
pub record TableView : Type 0 where
  pub name : List ℕ
  pub columns : List (List ℕ)
  pub rows : List CRow

-- the complete database that the tables are worth
abbrev pub value_of_tables : List ℕ → World → List TableView → Database
value_of_tables words v db = map (λ t. record { name = t.name; columns = t.columns; tuples = value_of_rows words v t.rows }) db

-- a table's rows are well formed, and their cells are, in order, a part of the cells that were ever made
pub record IsKept (words : List ℕ) (h : List PlainCommit) (actions : List PlainAction) (t : TableView) : Type 0 where
  pub rows : AreRows words (length t.columns) t.rows
  pub in_pattern : IsSublist (cells_of words t.rows) (pattern h actions (Table t.name))

-- the name and the columns of a table
abbrev pub heading_of : TableView → Heading
heading_of t = record { name = t.name; columns = t.columns }

-- tables are worth what a history and further actions make
pub record AreWorth (words : List ℕ) (h : List PlainCommit) (actions : List PlainAction) (db : List TableView) : Type 0 where
  pub tables : (v : World) → IfSome (world v h actions) (λ w. SameDatabase (value_of_tables words v db) w)
  pub kept : All (IsKept words h actions) db
  pub names : IsDistinct same_text (map (λ t. t.name) db)
  pub headings : map heading_of db ≡ (schema h actions).tables

-- a term stands in a change of the history that writes what is read, or what an action reads, or it stands in an action
pub data IsTermFor (h : List PlainCommit) (actions : List PlainAction) (r : Read) (t : Term) : Type 0 where
  by_change : (x : PlainChange) (s : Read) → Contains (changes_of h) x → Contains (r ∷ reads_of_actions actions) s → IsTrue (writes x s)
      → Contains (change_terms x) t → IsTermFor h actions r t
  by_action : (a : PlainAction) → Contains actions a → Contains (action_terms a) t → IsTermFor h actions r t

-- tables denote a history and further actions: they are worth what these make, the terms below a table's rows stand in the
-- changes that name it, or come with the actions, and a statement can write each change of the history
pub record Denotes (words : List ℕ) (h : List PlainCommit) (actions : List PlainAction) (db : List TableView) : Type 0 where
  pub worth : AreWorth words h actions db
  pub from : All (λ t. RowsFrom words t.rows (IsTermFor h actions (read.Table t.name))) db
  pub writable : IsTrue (list_all is_writable (changes_of h))

-- the first table with this name, if there is one
abbrev pub find_table : List TableView → List ℕ → Option TableView
find_table [] name = None
find_table (t ∷ db) name = if same_text t.name name then Some t else find_table db name

-- the tables with this one in the place of the first of its name, or last where its name is new
abbrev pub with_table : List TableView → TableView → List TableView
with_table [] new = new ∷ []
with_table (t ∷ db) new = if same_text t.name new.name then new ∷ db else t ∷ with_table db new
