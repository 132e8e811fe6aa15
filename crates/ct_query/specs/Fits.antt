-- Which queries, actions, statements and changes by positions fit the tables of a schema.
use Rattle.std.specs.Prelude.{◌≡◌, ◌<◌, ◌+◌, ℕ, List, [], ◌∷◌, ◌++◌, length, map, nat_eq, Option, Some, None, IsSome, All, ⊤, if◌then◌else◌}
use Rattle.std.specs.Option.{option_to_list}
use Rattle.std.specs.List.{IsDistinct}
use Rattle.ct_word.specs.declared.values.Term.{Term}
use Rattle.ct_word.specs.declared.values.Term.TheVariants as term
use Rattle.ct_word.specs.Value.{same_text}
use Rattle.ct_word.specs.Condition.{Condition, Conditions, True, False, Same, Not, And, Or, none, also}
use Rattle.ct_word.specs.Change.{PlainRow, PlainChange, Create, Insert, Delete, Update, Assert, PlainCommit}
use Rattle.ct_query.specs.declared.schema.Heading.{Heading}
use Rattle.ct_query.specs.Plain as plain
use Rattle.ct_query.specs.Plain.{PlainQuery, PlainAction, PlainStatement}
use Rattle.ct_query.specs.Updates.{Sets}
use Rattle.ct_query.specs.Fields.{FitsFields, FitsFieldsOn, AreFittingOn}
use Rattle.ct_query.specs.Schema.{schema, created_by_change}

-- the columns of the first table with this name, if there is one
abbrev pub columns_in : List Heading → List ℕ → Option (List (List ℕ))
columns_in [] t = None
columns_in (h ∷ hs) t = if same_text h.name t then Some h.columns else columns_in hs t

-- how many columns a table has; none for a name without a table
abbrev pub count_of : Option (List (List ℕ)) → ℕ
count_of (Some columns) = length columns
count_of None = 0

-- how many columns a query answers
abbrev pub width : List Heading → PlainQuery → ℕ
width s (plain.Table t) = count_of (columns_in s t)
width s (plain.Select c q) = width s q
width s (plain.Project ks q) = length ks
width s (plain.Product a b) = width s a + width s b
width s (plain.Union a b) = width s a
width s (plain.Except a b) = width s a
width s (plain.Intersect a b) = width s a

-- a term is no column, or one below this position
abbrev pub IsColumnBelow : ℕ → Term → Type 0
IsColumnBelow n (term.Column k) = k < n
IsColumnBelow n (term.Null u) = Unit {0}
IsColumnBelow n (term.Value x) = Unit {0}

-- a term fits a cell: it is no column, and its numbers are such that a word has room for them
abbrev pub FitsCell : Term → Type 0
FitsCell t = IsColumnBelow 0 t × FitsFields t

-- the columns of a condition are below this position
abbrev mutual
  pub AreColumnsBelow : ℕ → Condition → Type 0
  AreColumnsBelow n True = Unit {0}
  AreColumnsBelow n False = Unit {0}
  AreColumnsBelow n (Same s t) = IsColumnBelow n s × IsColumnBelow n t
  AreColumnsBelow n (Not c) = AreColumnsBelow n c
  AreColumnsBelow n (And cs) = AreAllColumnsBelow n cs
  AreColumnsBelow n (Or cs) = AreAllColumnsBelow n cs

  pub AreAllColumnsBelow : ℕ → Conditions → Type 0
  AreAllColumnsBelow n none = Unit {0}
  AreAllColumnsBelow n (also c cs) = AreColumnsBelow n c × AreAllColumnsBelow n cs

-- a condition fits rows of so many cells: its nulls and values have numbers that a word has room for, and its columns
-- are cells of the row
pub record FitsRows (n : ℕ) (c : Condition) : Type 0 where
  pub fields : AreFittingOn n c
  pub columns : AreColumnsBelow n c

-- a query fits: its tables are there, its columns are those of its parts, and the sides of its set operators have the
-- same number of columns
abbrev pub Fits : List Heading → PlainQuery → Type 0
Fits s (plain.Table t) = IsSome (columns_in s t)
Fits s (plain.Select c q) = FitsRows (width s q) c × Fits s q
Fits s (plain.Project ks q) = All (λ k. k < width s q) ks × Fits s q
Fits s (plain.Product a b) = Fits s a × Fits s b
Fits s (plain.Union a b) = (width s a ≡ width s b) × Fits s a × Fits s b
Fits s (plain.Except a b) = (width s a ≡ width s b) × Fits s a × Fits s b
Fits s (plain.Intersect a b) = (width s a ≡ width s b) × Fits s a × Fits s b

-- sets are made on rows of so many cells: their positions differ and are among these, and so are the columns of their terms
pub record AreSets (n : ℕ) (sets : Sets) : Type 0 where
  pub once : IsDistinct nat_eq (map (λ s. s.0) sets)
  pub within : All (λ s. s.0 < n) sets
  pub columns : All (λ s. IsColumnBelow n s.1) sets

-- an action fits: a new table has a new name, further rows have as many cells as their table has columns, none of them a
-- column, and sets and keys name columns of their table, each once
abbrev pub FitsAction : List Heading → PlainAction → Type 0
FitsAction s (plain.Create name columns) = columns_in s name ≡ None
FitsAction s (plain.InsertRows name rows c) =
    IsSome (columns_in s name) × All (λ r. length r ≡ width s (plain.Table name)) rows × All (All FitsCell) rows × FitsRows 0 c
FitsAction s (plain.InsertQuery name q) = IsSome (columns_in s name) × (width s q ≡ width s (plain.Table name)) × Fits s q
FitsAction s (plain.Delete name c) = IsSome (columns_in s name) × FitsRows (width s (plain.Table name)) c
FitsAction s (plain.Update name sets c) =
    IsSome (columns_in s name) × AreSets (width s (plain.Table name)) sets × All (λ b. FitsFieldsOn (width s (plain.Table name)) b.1) sets × FitsRows (width s (plain.Table name)) c
FitsAction s (plain.Assert c) = FitsRows 0 c
FitsAction s (plain.AssertQuery wanted q) = Fits s q
FitsAction s (plain.AssertKey name columns) = IsSome (columns_in s name) × All (λ k. k < width s (plain.Table name)) columns × IsDistinct nat_eq columns

-- a statement fits: its action does, or its query does and has a name for each column
abbrev pub FitsStatement : List Heading → PlainStatement → Type 0
FitsStatement s (plain.Act a) = FitsAction s a
FitsStatement s (plain.Asks ask columns q) = Fits s q × (length columns ≡ width s q)
FitsStatement s plain.Begin = Unit {0}
FitsStatement s plain.Commit = Unit {0}
FitsStatement s plain.Rollback = Unit {0}

-- a row fits a table of so many columns: it has as many cells, and no column stands in it
pub record FitsRow (n : ℕ) (r : PlainRow) : Type 0 where
  pub cells : length r.cells ≡ n
  pub plain : All (IsColumnBelow 0) r.cells
  pub condition : AreColumnsBelow 0 r.condition

-- a change fits: a new table has a new name, or the table that is named is there and the change fits its columns; no column
-- stands in an assertion
abbrev pub FitsChange : List Heading → PlainChange → Type 0
FitsChange s (Create name columns) = columns_in s name ≡ None
FitsChange s (Insert name rs) = IsSome (columns_in s name) × All (FitsRow (width s (plain.Table name))) rs
FitsChange s (Delete name c) = IsSome (columns_in s name) × AreColumnsBelow (width s (plain.Table name)) c
FitsChange s (Update name sets c) = IsSome (columns_in s name) × AreSets (width s (plain.Table name)) sets × AreColumnsBelow (width s (plain.Table name)) c
FitsChange s (Assert c) = AreColumnsBelow 0 c

-- each change fits the tables that are there after the changes before it
abbrev pub FitChanges : List Heading → List PlainChange → Type 0
FitChanges s [] = ⊤
FitChanges s (x ∷ xs) = FitsChange s x × FitChanges (s ++ option_to_list (created_by_change x)) xs

-- each change fits the tables that are there after a history and the changes before it
abbrev pub FitAfter : List PlainCommit → List PlainChange → Type 0
FitAfter h xs = FitChanges (schema h []).tables xs
