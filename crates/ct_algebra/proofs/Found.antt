-- The table with a name.
use Rattle.std.{proofs.Common.{◌≡◌, ℕ, List, [], ◌∷◌, map, refl, ap, sym, ◌∙◌}, proofs.lemmas.Bool.false≢true, specs.Option.option_map_or}
use Rattle.std.specs.Prelude.{Option, Some, None, IsSome, MatchOption, is_some, if◌then◌else◌}
use Rattle.ct_word.specs.Value.{World, same_text}
use Rattle.ct_query.{specs.Database.tuples_of, specs.Fits.columns_in}
use Rattle.ct_operators.specs.Tables.{cells_of, value_of_rows}
use Rattle.ct_table.{specs.Denotes.{TableView, heading_of, find_table, value_of_tables}, proofs.ByTables.{cells_found, found-cons}}
use Rattle.ct_algebra.specs.Operands.{cells_in}

-- what a name stands for where a table is found by it
pub record StandsFor (ws : List ℕ) (name : List ℕ) (t : TableView) (db : List TableView) : Type 0 where
  pub columns : columns_in (map heading_of db) name ≡ Some t.columns
  pub tuples : (v : World) → tuples_of (value_of_tables ws v db) name ≡ value_of_rows ws v t.rows
  pub cells : cells_in ws db name ≡ cells_of ws t.rows

columns_found : (name : List ℕ) (db : List TableView) → columns_in (map heading_of db) name ≡ option_map_or (λ (t : TableView). Some t.columns) (find_table db name) None
columns_found name [] = refl
columns_found name (t ∷ db) =
    ap (λ o. if same_text t.name name then Some t.columns else o) (columns_found name db) ∙ sym (found-cons (λ (x : TableView). Some x.columns) None t db name)

tuples_found : (ws : List ℕ) (v : World) (name : List ℕ) (db : List TableView)
    → tuples_of (value_of_tables ws v db) name ≡ option_map_or (λ (t : TableView). value_of_rows ws v t.rows) (find_table db name) []
tuples_found ws v name [] = refl
tuples_found ws v name (t ∷ db) =
    ap (λ l. if same_text t.name name then value_of_rows ws v t.rows else l) (tuples_found ws v name db) ∙ sym (found-cons (λ (x : TableView). value_of_rows ws v x.rows) [] t db name)

-- the cells that are found by a name
pub cells_by_name : (ws name : List ℕ) (db : List TableView) → cells_in ws db name ≡ cells_found ws db name
cells_by_name ws name [] = refl
cells_by_name ws name (t ∷ db) =
    ap (λ l. if same_text t.name name then cells_of ws t.rows else l) (cells_by_name ws name db) ∙ sym (found-cons (λ (x : TableView). cells_of ws x.rows) [] t db name)

pub stands_for : (ws : List ℕ) (name : List ℕ) (t : TableView) (db : List TableView) → find_table db name ≡ Some t → StandsFor ws name t db
stands_for ws name t db f = record {
  columns = columns_found name db ∙ ap (λ o. option_map_or (λ (x : TableView). Some x.columns) o None) f;
  tuples = λ v. tuples_found ws v name db ∙ ap (λ o. option_map_or (λ (x : TableView). value_of_rows ws v x.rows) o []) f;
  cells = cells_by_name ws name db ∙ ap (λ o. option_map_or (λ (x : TableView). cells_of ws x.rows) o []) f;
}

-- a name without a table has no columns
pub no_columns : (name : List ℕ) (db : List TableView) → find_table db name ≡ None → columns_in (map heading_of db) name ≡ None
no_columns name db f = columns_found name db ∙ ap (λ o. option_map_or (λ (x : TableView). Some x.columns) o None) f

-- so it has a table where a query that names it fits
pub got_some : {A : Type 0} (o : Option A) (P : A → Type 0) (name : List ℕ) (db : List TableView) → IsSome (columns_in (map heading_of db) name) → MatchOption o (find_table db name ≡ None) P → IsSome o
got_some (Some x) P name db there got = refl
got_some None P name db there got = absurd (false≢true (sym (ap (λ (o : Option (List (List ℕ))). is_some o) (no_columns name db got)) ∙ there))
