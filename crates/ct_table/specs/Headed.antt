-- The names and columns of tables.
use Rattle.std.specs.Prelude.{List, map}
use Rattle.ct_query.specs.declared.schema.Schema.{Schema}
use Rattle.ct_table.specs.Denotes.{TableView, heading_of}

-- the names and columns of tables, in their order
abbrev pub schema_of : List TableView → Schema
schema_of db = record { tables = map heading_of db }
