-- One change or one action, as plain set change on one complete database.
use Rattle.std.specs.Prelude.{ℕ, Bool, not, List, [], ◌∷◌, ◌++◌, map, filter, Option, Some, None, if◌then◌else◌}
use Rattle.ct_word.specs.declared.values.Value.{Value}
use Rattle.ct_word.specs.Value.{World, tuple_at}
use Rattle.ct_word.specs.Condition.{Condition, holds, holds_at}
use Rattle.ct_word.specs.Change.{PlainRow, PlainChange, Create, Insert, Delete, Update, Assert}
use Rattle.ct_query.specs.Plain.{PlainAction}
use Rattle.ct_query.specs.Plain as plain
use Rattle.ct_query.specs.Database.{Database, tuples_of, changed}
use Rattle.ct_query.specs.Rows.{rows}
use Rattle.ct_query.specs.Updates.{Sets, updated}
use Rattle.ct_query.specs.Assertions.{as_wanted, is_key}

-- an empty table comes last
abbrev pub created : Database → List ℕ → List (List ℕ) → Database
created w name columns = w ++ record { name = name; columns = columns; tuples = [] } ∷ []

-- tuples are added to a table
abbrev pub inserted : Database → List ℕ → List (List Value) → Database
inserted w name more = changed w name (λ tuples. tuples ++ more)

-- the tuples for which a condition holds are removed from a table
abbrev pub deleted : World → Database → List ℕ → Condition → Database
deleted v w name c = changed w name (filter (λ tuple. not (holds v tuple c)))

-- the sets are made on the tuples of a table for which a condition holds
abbrev pub set_where : World → Database → List ℕ → Sets → Condition → Database
set_where v w name sets c = changed w name (updated v c sets)

-- the database where this is so, none where it is not
abbrev pub only_if : Bool → Database → Option Database
only_if b w = if b then Some w else None

-- the database where a condition holds, none where it does not
abbrev pub asserted : World → Database → Condition → Option Database
asserted v w c = if holds_at v c then Some w else None

-- the tuples of the rows whose own condition holds
abbrev pub shown_rows : World → List PlainRow → List (List Value)
shown_rows v rs = map (λ r. tuple_at v r.cells) (filter (λ r. holds_at v r.condition) rs)

-- the database after one change
abbrev pub step_change : World → Database → PlainChange → Option Database
step_change v w (Create name columns) = Some (created w name columns)
step_change v w (Insert name rs) = Some (inserted w name (shown_rows v rs))
step_change v w (Delete name c) = Some (deleted v w name c)
step_change v w (Update name sets c) = Some (set_where v w name sets c)
step_change v w (Assert c) = asserted v w c

-- the database after one action
abbrev pub step_action : World → Database → PlainAction → Option Database
step_action v w (plain.Create name columns) = Some (created w name columns)
step_action v w (plain.InsertRows name rs p) = Some (if holds_at v p then inserted w name (map (tuple_at v) rs) else w)
step_action v w (plain.InsertQuery name q) = Some (inserted w name (rows v q w))
step_action v w (plain.Delete name p) = Some (deleted v w name p)
step_action v w (plain.Update name sets p) = Some (set_where v w name sets p)
step_action v w (plain.Assert p) = asserted v w p
step_action v w (plain.AssertQuery wanted q) = only_if (as_wanted wanted (rows v q w)) w
step_action v w (plain.AssertKey name columns) = only_if (is_key columns (tuples_of w name)) w
