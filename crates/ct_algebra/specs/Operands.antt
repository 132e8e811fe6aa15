-- The tables that a query is evaluated over, by their names.
use Rattle.std.specs.Prelude.{ℕ, List, [], ◌∷◌, length, All, if◌then◌else◌}
use Rattle.ct_word.specs.Value.{same_text}
use Rattle.ct_query.specs.Patterns.{Patterns}
use Rattle.ct_operators.specs.declared.table.CTable.{CTable}
use Rattle.ct_operators.specs.Tables.{cells_of, AreRows}
use Rattle.ct_table.specs.Denotes.{TableView}
use Rattle.ct_algebra.specs.declared.operands.Place.{Place}
use Rattle.ct_algebra.specs.declared.operands.Place.TheVariants as place

-- the rows of each table are well formed
abbrev pub AreTables : List ℕ → List TableView → Type 0
AreTables words db = All (λ t. AreRows words (length t.columns) t.rows) db

-- the cells of the rows of the first table with this name; none for a name without a table
abbrev pub cells_in : List ℕ → List TableView → Patterns
cells_in words [] name = []
cells_in words (t ∷ db) name = if same_text t.name name then cells_of words t.rows else cells_in words db name

-- the table, wherever its rows stand
abbrev pub table_at : Place → CTable
table_at (place.Stored t) = t
table_at (place.Made t) = t
