-- The tables of a version, whoever holds them.
use Rattle.std.specs.Prelude.{List}
use Rattle.std.specs.Arc.{arc_value}
use Rattle.ct_table.specs.Denotes.{TableView}
use Rattle.ct_keeper.specs.declared.tables.Held.{Held}
use Rattle.ct_keeper.specs.declared.tables.Held.TheVariants as held

-- the tables, held alone or shared
abbrev pub tables_in : Held → List TableView
tables_in (held.Own db) = db
tables_in (held.Shared a) = arc_value a
