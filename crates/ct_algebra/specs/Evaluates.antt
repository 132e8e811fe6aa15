-- When a conditional table is the answer to a query over other conditional tables.
use Rattle.std.specs.Prelude.{◌≡◌, ℕ, List, length, map}
use Rattle.ct_word.specs.Value.{World}
use Rattle.ct_word.specs.Sublist.{IsSublist}
use Rattle.ct_query.specs.Plain.{PlainQuery}
use Rattle.ct_query.specs.Database.{SameSet}
use Rattle.ct_query.specs.Rows.{rows}
use Rattle.ct_query.specs.Patterns.{query_pattern}
use Rattle.ct_query.specs.Fits.{width}
use Rattle.ct_operators.specs.declared.table.CTable.{CTable}
use Rattle.ct_operators.specs.Tables.{cells_of, value_of_rows, AreRows}
use Rattle.ct_table.specs.Denotes.{TableView, heading_of, value_of_tables}
use Rattle.ct_operators.specs.Terms.{RowsFrom}
use Rattle.ct_algebra.specs.Operands.{cells_in}
use Rattle.ct_algebra.specs.Terms.{TermOfQuery}

-- the most rows, or pairs of rows, that a part of a query may go through
abbrev pub limit : ℕ
limit = 16777216

-- a table over the words now answers a query over tables of the words before: it has as many columns as the query, with
-- whatever names, its rows are well formed, at every valuation it is worth what the query gives on what the tables are worth, its cells are, in order, among those that
-- the query gives on the tables' cells, and its terms are of the tables or of the query
pub record Evaluates (old now : List ℕ) (db : List TableView) (q : PlainQuery) (out : CTable) : Type 0 where
  pub width_is : length out.columns ≡ width (map heading_of db) q
  pub are : AreRows now (length out.columns) out.rows
  pub tuples : (v : World) → SameSet (value_of_rows now v out.rows) (rows v q (value_of_tables old v db))
  pub part : IsSublist (cells_of now out.rows) (query_pattern (cells_in old db) q)
  pub from : RowsFrom now out.rows (TermOfQuery old db q)
