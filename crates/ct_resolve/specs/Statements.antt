-- Statements with positions for names.
use Rattle.std.specs.Prelude.{ℕ, ◌+◌, ◌≤◌, ◌^◌, not, List, [], ◌∷◌, length, map, Ok, nat_eq}
use Rattle.std.specs.List.{list_all}
use Rattle.ct_word.specs.declared.values.Value.TheVariants as val
use Rattle.ct_word.specs.declared.values.Null.TheVariants as null
use Rattle.ct_word.specs.declared.values.Term.{Term}
use Rattle.ct_word.specs.declared.values.Term.TheVariants as term
use Rattle.ct_query.specs.declared.action.Ask.TheVariants as ask
use Rattle.ct_query.specs.declared.schema.Heading.{Heading}
use Rattle.ct_query.specs.declared.schema.Schema.{Schema}
use Rattle.ct_query.specs.Plain as plain
use Rattle.ct_query.specs.Plain.{PlainStatement}
use Rattle.ct_parse.specs.declared.tree.Assignment.{Assignment}
use Rattle.ct_parse.specs.declared.tree.Cell.{Cell}
use Rattle.ct_parse.specs.declared.tree.Cell.TheVariants as cell
use Rattle.ct_parse.specs.declared.tree.Row.{Row}
use Rattle.ct_parse.specs.declared.tree.Statement.{Statement}
use Rattle.ct_parse.specs.declared.tree.Statement.TheVariants as statement
use Rattle.ct_resolve.specs.declared.error.ResolveError.TheVariants as fault
use Rattle.ct_resolve.specs.Found.{Found, and_then, unless, each}
use Rattle.ct_resolve.specs.Names.{table_in, is_table, are_distinct, column_in}
use Rattle.ct_resolve.specs.Conditions.{term_at, condition_at, condition_or_true}
use Rattle.ct_resolve.specs.Queries.{query_at}

-- the term of a cell; a NULL is the null of the session with the next number
abbrev pub cell_term : ℕ → ℕ → Cell → Term
cell_term session next (cell.Number i) = term.Value (val.Int i)
cell_term session next (cell.Text t) = term.Value (val.Text t)
cell_term session next (cell.Null n) = term.Null (null.Named n)
cell_term session next cell.NewNull = term.Null (null.Fresh session next)

-- the number after a cell
abbrev pub next_after : ℕ → Cell → ℕ
next_after next cell.NewNull = next + 1
next_after next _ = next

-- the number after cells
abbrev pub next_after_all : ℕ → List Cell → ℕ
next_after_all next [] = next
next_after_all next (c ∷ cs) = next_after_all (next_after next c) cs

-- the terms of cells from the left
abbrev pub cell_terms : ℕ → ℕ → List Cell → List Term
cell_terms session next [] = []
cell_terms session next (c ∷ cs) = cell_term session next c ∷ cell_terms session (next_after next c) cs

-- the cells of a row
abbrev pub cells_of : Row → List Cell
cells_of r = r.first ∷ r.rest

-- the number after rows
abbrev pub next_after_rows : ℕ → List Row → ℕ
next_after_rows next [] = next
next_after_rows next (r ∷ rs) = next_after_rows (next_after_all next (cells_of r)) rs

-- the terms of rows from the left
abbrev pub row_terms : ℕ → ℕ → List Row → List (List Term)
row_terms session next [] = []
row_terms session next (r ∷ rs) = cell_terms session next (cells_of r) ∷ row_terms session (next_after_all next (cells_of r)) rs

-- an assignment: the position of its column, then its term, which sees the table under its own name
abbrev pub set_at : Heading → Assignment → Found (ℕ × Term)
set_at h a = and_then (column_in h a.column) (λ k. and_then (term_at (h ∷ []) a.value) (λ t. Ok (k, t)))

-- the columns that assignments set
abbrev pub columns_set : List Assignment → List (List ℕ)
columns_set bs = map (λ a. a.column) bs

-- a statement with positions for names; fresh is the number of the session's last null
abbrev pub resolved : Schema → ℕ → ℕ → Statement → Found PlainStatement
resolved s session fresh (statement.Create name c cs) =
    unless (not (is_table s.tables name)) fault.TableExists (
    unless (are_distinct (c ∷ cs)) fault.DuplicateName (Ok (plain.Act (plain.Create name (c ∷ cs)))))
resolved s session fresh (statement.InsertRows name r rs c) =
    and_then (table_in s.tables name) (λ h.
    unless (list_all (λ w. nat_eq (length (cells_of w)) (length h.columns)) (r ∷ rs)) fault.ColumnCount (
    and_then (condition_or_true [] c) (λ d. Ok (plain.Act (plain.InsertRows name (row_terms session (fresh + 1) (r ∷ rs)) d)))))
resolved s session fresh (statement.InsertQuery name q) =
    and_then (table_in s.tables name) (λ h.
    and_then (query_at s.tables q) (λ a.
    unless (nat_eq (length a.columns) (length h.columns)) fault.ColumnCount (Ok (plain.Act (plain.InsertQuery name a.query)))))
resolved s session fresh (statement.Delete name c) =
    and_then (table_in s.tables name) (λ h. and_then (condition_or_true (h ∷ []) c) (λ d. Ok (plain.Act (plain.Delete name d))))
resolved s session fresh (statement.Update name a bs c) =
    and_then (table_in s.tables name) (λ h.
    and_then (each (set_at h) (a ∷ bs)) (λ sets.
    unless (are_distinct (columns_set (a ∷ bs))) fault.DuplicateName (
    and_then (condition_or_true (h ∷ []) c) (λ d. Ok (plain.Act (plain.Update name sets d))))))
resolved s session fresh (statement.Assert c) = and_then (condition_at [] c) (λ d. Ok (plain.Act (plain.Assert d)))
resolved s session fresh (statement.AssertExists negated q) = and_then (query_at s.tables q) (λ a. Ok (plain.Act (plain.AssertQuery (not negated) a.query)))
resolved s session fresh (statement.AssertKey name c cs) =
    and_then (table_in s.tables name) (λ h.
    and_then (each (column_in h) (c ∷ cs)) (λ ks.
    unless (are_distinct (c ∷ cs)) fault.DuplicateName (Ok (plain.Act (plain.AssertKey name ks)))))
resolved s session fresh (statement.Rows q) = and_then (query_at s.tables q) (λ a. Ok (plain.Asks ask.Rows a.columns a.query))
resolved s session fresh (statement.Possible q) = and_then (query_at s.tables q) (λ a. Ok (plain.Asks ask.Possible a.columns a.query))
resolved s session fresh (statement.Certain q) = and_then (query_at s.tables q) (λ a. Ok (plain.Asks ask.Certain a.columns a.query))
resolved s session fresh statement.Begin = Ok plain.Begin
resolved s session fresh statement.Commit = Ok plain.Commit
resolved s session fresh statement.Rollback = Ok plain.Rollback

-- words have room for the number of each null that a statement draws; fresh is the number of the session's last null
abbrev pub HasRoom : ℕ → Statement → Type 0
HasRoom fresh (statement.InsertRows name r rs c) = next_after_rows (fresh + 1) (r ∷ rs) ≤ 2 ^ 28
HasRoom fresh _ = Unit {0}
