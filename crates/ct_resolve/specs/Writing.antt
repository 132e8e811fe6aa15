-- Which statements by positions a text can write: tables and columns that it names are names, nulls that it names are
-- spelled as words, and no value is an other one.
use Rattle.std.specs.Prelude.{◌≡◌, ℕ, true, List, All}
use Rattle.ct_word.specs.declared.values.Term.{Term}
use Rattle.ct_word.specs.Condition.{Condition}
use Rattle.ct_word.specs.Writable.{is_name, is_writable_term, is_writable_condition}
use Rattle.ct_query.specs.declared.schema.Heading.{Heading}
use Rattle.ct_query.specs.Plain as plain
use Rattle.ct_query.specs.Plain.{PlainQuery, PlainAction, PlainStatement}

-- a text is a name
abbrev pub IsNamed : List ℕ → Type 0
IsNamed t = is_name t ≡ true

-- the columns of a table are names
abbrev pub HasNames : Heading → Type 0
HasNames h = All IsNamed h.columns

-- a term that can be written
abbrev pub WritesTerm : Term → Type 0
WritesTerm t = is_writable_term t ≡ true

-- a condition that can be written
abbrev pub Writes : Condition → Type 0
Writes c = is_writable_condition c ≡ true

-- the tables of a query are names, and its conditions can be written
abbrev pub WritesQuery : PlainQuery → Type 0
WritesQuery (plain.Table t) = IsNamed t
WritesQuery (plain.Select c q) = Writes c × WritesQuery q
WritesQuery (plain.Project ks q) = WritesQuery q
WritesQuery (plain.Product a b) = WritesQuery a × WritesQuery b
WritesQuery (plain.Union a b) = WritesQuery a × WritesQuery b
WritesQuery (plain.Except a b) = WritesQuery a × WritesQuery b
WritesQuery (plain.Intersect a b) = WritesQuery a × WritesQuery b

-- the table and the columns of an action are names, and its terms, conditions and query can be written
abbrev pub WritesAction : PlainAction → Type 0
WritesAction (plain.Create name columns) = IsNamed name × All IsNamed columns
WritesAction (plain.InsertRows name rows c) = IsNamed name × All (All WritesTerm) rows × Writes c
WritesAction (plain.InsertQuery name q) = IsNamed name × WritesQuery q
WritesAction (plain.Delete name c) = IsNamed name × Writes c
WritesAction (plain.Update name sets c) = IsNamed name × All (λ b. WritesTerm b.1) sets × Writes c
WritesAction (plain.Assert c) = Writes c
WritesAction (plain.AssertQuery wanted q) = WritesQuery q
WritesAction (plain.AssertKey name columns) = IsNamed name

-- a statement's action or query can be written
abbrev pub WritesStatement : PlainStatement → Type 0
WritesStatement (plain.Act a) = WritesAction a
WritesStatement (plain.Asks ask columns q) = WritesQuery q
WritesStatement plain.Begin = Unit {0}
WritesStatement plain.Commit = Unit {0}
WritesStatement plain.Rollback = Unit {0}

-- the columns of what is answered are names, where those of the schema's tables are
abbrev pub NamesColumns : List Heading → PlainStatement → Type 0
NamesColumns schema (plain.Asks ask columns q) = All HasNames schema → All IsNamed columns
NamesColumns schema _ = Unit {0}
