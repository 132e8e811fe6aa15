-- Where the terms of a change come from that an action is recorded by.
use Rattle.std.specs.Prelude.{List, [], ◌∷◌, ◌++◌}
use Rattle.std.specs.List.{Contains}
use Rattle.ct_word.specs.declared.values.Term.{Term}
use Rattle.ct_word.specs.Change.{PlainChange, Create, Insert, Delete, Update, Assert, PlainCommit}
use Rattle.ct_query.specs.Plain.{PlainAction}
use Rattle.ct_query.specs.declared.action.Read.{Read}
use Rattle.ct_query.specs.declared.action.Read.TheVariants as read
use Rattle.ct_query.specs.Terms.{change_terms}
use Rattle.ct_table.specs.Denotes.{IsTermFor}
use Rattle.ct_operators.specs.Terms.{IsNoColumn}

-- what a change writes
abbrev pub written_by : PlainChange → Read
written_by (Create name columns) = read.Table name
written_by (Insert name rows) = read.Table name
written_by (Delete name c) = read.Table name
written_by (Update name sets c) = read.Table name
written_by (Assert c) = read.Worlds

-- the terms of the change of an action, but for columns, come with the action or from the changes of what it read
abbrev pub HasTermsFor : List PlainCommit → List PlainAction → PlainAction → PlainChange → Type 0
HasTermsFor h before a x = (u : Term) → IsNoColumn u → Contains (change_terms x) u → IsTermFor h (before ++ a ∷ []) (written_by x) u
