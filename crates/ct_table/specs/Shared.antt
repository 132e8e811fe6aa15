-- A table under its name, without where it is shared and whether it has a map.
use Rattle.std.specs.Prelude.{ℕ, List}
use Rattle.std.specs.Arc.{arc_value}
use Rattle.ct_operators.specs.declared.table.CTable.{CTable}
use Rattle.ct_table.specs.declared.sharing.Body.{Body}
use Rattle.ct_table.specs.declared.sharing.Body.TheVariants as body
use Rattle.ct_table.specs.Denotes.{TableView}
use Rattle.ct_table.specs.Growing.{table_of}

-- a table under a name
abbrev pub view_of : List ℕ → CTable → TableView
view_of name t = record { name = name; columns = t.columns; rows = t.rows }

-- an entry of the tables
abbrev pub entry_of : List ℕ × CTable → TableView
entry_of e = view_of e.0 e.1

-- the table, however its rows stand
abbrev pub body_of : Body → CTable
body_of (body.Plain t) = arc_value t
body_of (body.Keyed k) = table_of k
body_of (body.Listed l) = arc_value l
