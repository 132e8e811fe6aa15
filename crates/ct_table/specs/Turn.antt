-- The tables of a database before a change and after it.
use Rattle.std.specs.Prelude.{List}
use Rattle.ct_table.specs.Denotes.{TableView}

-- the tables before and after
pub record Turn : Type 0 where
  pub before : List TableView
  pub after : List TableView
