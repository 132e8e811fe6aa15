-- The tables of a database before and after a growth.
use Rattle.std.specs.Prelude.{ℕ, List, Option, Some, None}
use Rattle.ct_table.specs.declared.pending.Growth.{Growth}
use Rattle.ct_table.specs.declared.pending.Growth.TheVariants as growth
use Rattle.ct_table.specs.declared.pending.Pending.{Pending}
use Rattle.ct_table.specs.declared.pending.Pending.TheVariants as pending
use Rattle.ct_table.specs.Denotes.{TableView, find_table, with_table}
use Rattle.ct_table.specs.Turn.{Turn}
use Rattle.ct_table.specs.Growing.{Apart, entries_of, rows_after}
use Rattle.ct_table.specs.Shared.{view_of}

-- the tables where the one with this name gets conditions at cells
abbrev pub put_into : List TableView → List ℕ → List (List ℕ × ℕ) → Option TableView → List TableView
put_into db name puts None = db
put_into db name puts (Some t) = with_table db (record { name = name; columns = t.columns; rows = rows_after t.rows puts })

-- the tables after a growth
abbrev pub after : List TableView → Growth → List TableView
after db (growth.Table name t) = with_table db (view_of name t)
after db (growth.Rows name puts) = put_into db name puts.items (find_table db name)

-- there is a table, and no two of its rows have the same cells
abbrev pub IsApart : Option TableView → Type 0
IsApart None = ⊥
IsApart (Some t) = Apart (entries_of t.rows)

-- a growth is of a table that can grow so
abbrev pub FitsGrowth : List TableView → Growth → Type 0
FitsGrowth db (growth.Table name t) = Unit {0}
FitsGrowth db (growth.Rows name puts) = IsApart (find_table db name)

-- the tables before and after a pending growth
abbrev pub turn_of : Pending → Turn
turn_of (pending.Table t) = t
turn_of (pending.Rows r) = r
