-- Tables and columns by their names.
use Rattle.std.specs.Prelude.{ℕ, ◌+◌, Bool, true, not, ◌&&◌, List, [], ◌∷◌, ◌++◌, length, Option, Some, None, Ok, Err, if◌then◌else◌}
use Rattle.std.specs.List.{list_any}
use Rattle.ct_word.specs.Value.{same_text}
use Rattle.ct_query.specs.declared.schema.Heading.{Heading}
use Rattle.ct_parse.specs.declared.tree.Column.{Column}
use Rattle.ct_parse.specs.declared.tree.Column.TheVariants as column
use Rattle.ct_resolve.specs.declared.error.ResolveError.TheVariants as fault
use Rattle.ct_resolve.specs.Found.{Found}

-- the first table with a name, or UnknownTable
abbrev pub table_in : List Heading → List ℕ → Found Heading
table_in [] name = Err fault.UnknownTable
table_in (h ∷ hs) name = if same_text h.name name then Ok h else table_in hs name

-- whether a table has a name
abbrev pub is_table : List Heading → List ℕ → Bool
is_table hs name = list_any (λ h. same_text h.name name) hs

-- whether no name stands twice
abbrev pub are_distinct : List (List ℕ) → Bool
are_distinct [] = true
are_distinct (n ∷ ns) = not (list_any (same_text n) ns) && are_distinct ns

-- whether a written column may be one of a table that is seen under a name
abbrev pub may_be_of : Column → List ℕ → Bool
may_be_of (column.Plain c) name = true
may_be_of (column.Qualified t c) name = same_text name t

-- the name of a written column, without its table
abbrev pub own_name : Column → List ℕ
own_name (column.Plain c) = c
own_name (column.Qualified t c) = c

-- the place of the first such name, counted from this one on
abbrev pub place_from : ℕ → List (List ℕ) → List ℕ → Option ℕ
place_from k [] c = None
place_from k (d ∷ ds) c = if same_text d c then Some k else place_from (k + 1) ds c

-- the position of a place, or UnknownColumn
abbrev pub placed : Option ℕ → Found ℕ
placed None = Err fault.UnknownColumn
placed (Some k) = Ok k

-- the position of a table's first column with this name, or UnknownColumn
abbrev pub column_in : Heading → List ℕ → Found ℕ
column_in h c = placed (place_from 0 h.columns c)

-- the place of a written column in a table that is seen under its name, where it has one
abbrev pub place_in : Heading → Column → Option ℕ
place_in h c = if may_be_of c h.name then place_from 0 h.columns (own_name c) else None

-- the position that a place in a table has, where the table's columns begin at this one
abbrev pub position_of : ℕ → Option ℕ → List ℕ
position_of k None = []
position_of k (Some i) = (k + i) ∷ []

-- the positions of a written column, one for each table in scope that has it; the columns of all tables are counted
-- from the left, from this position on
abbrev pub positions_from : ℕ → List Heading → Column → List ℕ
positions_from k [] c = []
positions_from k (h ∷ hs) c = position_of k (place_in h c) ++ positions_from (k + length h.columns) hs c

-- the one position; UnknownColumn where there is none, AmbiguousColumn where there are more
abbrev pub only : List ℕ → Found ℕ
only [] = Err fault.UnknownColumn
only (k ∷ []) = Ok k
only (k ∷ l ∷ ls) = Err fault.AmbiguousColumn

-- the position of a written column among those of the tables in scope, each under its visible name
abbrev pub column_at : List Heading → Column → Found ℕ
column_at scope c = only (positions_from 0 scope c)
