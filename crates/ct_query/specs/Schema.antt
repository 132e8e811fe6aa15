-- The names and columns that a history and further actions create.
use Rattle.std.specs.Prelude.{List, ◌++◌, filter_map, Option, Some, None}
use Rattle.ct_word.specs.Change.{PlainChange, Create, PlainCommit}
use Rattle.ct_query.specs.Plain.{PlainAction}
use Rattle.ct_query.specs.Plain as plain
use Rattle.ct_query.specs.declared.schema.Heading.{Heading}
use Rattle.ct_query.specs.declared.schema.Schema.{Schema}
use Rattle.ct_query.specs.Worlds.{changes_of}

-- the table that a change creates, if it creates one
abbrev pub created_by_change : PlainChange → Option Heading
created_by_change (Create name columns) = Some (record { name = name; columns = columns })
created_by_change _ = None

-- the table that an action creates, if it creates one
abbrev pub created_by_action : PlainAction → Option Heading
created_by_action (plain.Create name columns) = Some (record { name = name; columns = columns })
created_by_action _ = None

-- the schema after a history and further actions
abbrev pub schema : List PlainCommit → List PlainAction → Schema
schema h actions = record { tables = filter_map created_by_change (changes_of h) ++ filter_map created_by_action actions }
