-- The counts of tables.
use Rattle.std.specs.Prelude.{ℕ, List, Option, Some, None, length, min}
use Rattle.ct_query.specs.declared.schema.Count.{Count}
use Rattle.ct_table.specs.Denotes.{TableView, find_table}

-- the numbers of rows and columns of a table; that of columns stops at the greatest number of 32 bits
abbrev pub count_of : TableView → Count
count_of t = record { name = t.name; rows = length t.rows; columns = min (length t.columns) 4294967295 }

-- the number of rows of a table, if it is there, else 0
abbrev pub rows_of_found : Option TableView → ℕ
rows_of_found None = 0
rows_of_found (Some t) = length t.rows

-- the same of columns; it stops at the greatest number of 32 bits
abbrev pub columns_of_found : Option TableView → ℕ
columns_of_found None = 0
columns_of_found (Some t) = min (length t.columns) 4294967295

-- the count of the table with a name
abbrev pub count_at : List TableView → List ℕ → Count
count_at db name = record { name = name; rows = rows_of_found (find_table db name); columns = columns_of_found (find_table db name) }
