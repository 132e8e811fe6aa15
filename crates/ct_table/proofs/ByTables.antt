-- Queries over tables that are worth what a history and further actions make, and over these.
use Rattle.std.{proofs.Common.{◌≡◌, ℕ, ◌≤◌, Bool, true, false, List, [], ◌∷◌, map, length, refl, sym, subst, ◌∙◌, arith}, specs.Option.option_map_or}
use Rattle.std.{specs.Prelude.{Option, Some, None, IfSome, if◌then◌else◌}, proofs.lemmas.List.length-map, proofs.lemmas.List.Elements.recursion_from_All}
use Rattle.ct_word.{specs.declared.values.Value.Value, specs.declared.values.CRow.CRow, specs.Value.{World, same_text}, specs.Sublist.IsSublist}
use Rattle.ct_word.{specs.Change.PlainCommit, specs.Reading.term_at}
use Rattle.ct_query.{specs.declared.schema.Count.Count, specs.Plain.{PlainQuery, PlainAction}, specs.Database.{Database, SameSet, SameDatabase}}
use Rattle.ct_query.{specs.Rows.rows, specs.Worlds.world, specs.Patterns.{Patterns, patterns, pattern, query_pattern, count}, specs.Size.{size, rows_in}}
use Rattle.ct_query.{proofs.Sublists.{nothing_of, pattern_part}, proofs.Sets.same_set_on, proofs.SameRows.rows_same}
use Rattle.ct_operators.specs.Tables.{cells_of}
use Rattle.ct_table.{specs.Denotes.{TableView, value_of_tables, IsKept, AreWorth, find_table}, proofs.Denoting.{found_all, found_pattern}}
use Rattle.ct_table.{proofs.QuerySizes.size_grows, proofs.Counted.rows_counted}

-- the cells of the rows of the table with a name; none for a name without a table
abbrev pub cells_found : List ℕ → List TableView → Patterns
cells_found words db name = option_map_or (λ t. cells_of words t.rows) (find_table db name) []

-- how many rows the table with a name has; none for a name without a table
abbrev pub rows_found : List TableView → List ℕ → ℕ
rows_found db name = option_map_or (λ t. length t.rows) (find_table db name) 0

-- a table is found first, or among those after it
pub found-cons : {A : Type 0} (f : TableView → A) (none : A) (t : TableView) (db : List TableView) (name : List ℕ)
    → option_map_or f (find_table (t ∷ db) name) none ≡ (if same_text t.name name then f t else option_map_or f (find_table db name) none)
found-cons f none t db name = by_test (same_text t.name name) where
  by_test : (b : Bool) → option_map_or f (if b then Some t else find_table db name) none ≡ (if b then f t else option_map_or f (find_table db name) none)
  by_test true = refl
  by_test false = refl

-- counts made of the tables have the rows of each table under its name
pub rows_in_found : (f : TableView → Count) → ((t : TableView) → (f t).name ≡ t.name) → ((t : TableView) → (f t).rows ≡ length t.rows)
    → (db : List TableView) (name : List ℕ) → rows_in (map f db) name ≡ rows_found db name
rows_in_found f names counts [] name = refl
rows_in_found f names counts (t ∷ db) name =
    (λ i. if same_text (names t i) name then counts t i else rows_in_found f names counts db name i)
    ∙ sym (found-cons (λ x. length x.rows) 0 t db name)

module _ (words : List ℕ) (h : List PlainCommit) (actions : List PlainAction) (db : List TableView) (d : AreWorth words h actions db) where
  found_kept : (name : List ℕ) (t : TableView) → find_table db name ≡ Some t → IsKept words h actions t
  found_kept name t e = found_all (IsKept words h actions) name t db (recursion_from_All (IsKept words h actions) db d.kept) e

  -- the cells of a table are, in order, a part of the cells that were ever made into it
  pub cells_part : (name : List ℕ) → IsSublist (cells_found words db name) (patterns h actions name)
  cells_part name = by_case (find_table db name) refl where
    by_case : (o : Option TableView) → find_table db name ≡ o → IsSublist (option_map_or (λ t. cells_of words t.rows) o []) (patterns h actions name)
    by_case None e = nothing_of (patterns h actions name)
    by_case (Some t) e = found_pattern words h actions h actions db d name t e

  -- a table has at most as many rows as different cells were ever made in it
  pub tables_counted : (name : List ℕ) → rows_found db name ≤ count h actions name
  tables_counted name = by_case (find_table db name) refl where
    by_case : (o : Option TableView) → find_table db name ≡ o → option_map_or (λ t. length t.rows) o 0 ≤ count h actions name
    by_case None e = omega arith
    by_case (Some t) e =
        subst (λ n. n ≤ count h actions name) (length-map t.rows (λ (r : CRow). map (term_at words) r.cells))
        (rows_counted (cells_of words t.rows) (patterns h actions name) (found_kept name t e).rows.distinct (found_pattern words h actions h actions db d name t e))

  -- a query over the tables gives what it gives over the history
  pub means_by_tables : (v : World) (q : PlainQuery) (w : Database) → world v h actions ≡ Some w → SameSet (rows v q (value_of_tables words v db)) (rows v q w)
  means_by_tables v q w e = rows_same v q (value_of_tables words v db) w (subst (λ o. IfSome o (λ u. SameDatabase (value_of_tables words v db) u)) e (d.tables v))

  -- tuples that answer a query over the tables answer it over the history
  pub answered_by_tables : (v : World) (q : PlainQuery) (tuples : List (List Value)) → SameSet tuples (rows v q (value_of_tables words v db))
      → IfSome (world v h actions) (λ w. SameSet tuples (rows v q w))
  answered_by_tables v q tuples s = by_world (world v h actions) refl where
    by_world : (o : Option Database) → world v h actions ≡ o → IfSome o (λ w. SameSet tuples (rows v q w))
    by_world None e = tt
    by_world (Some w) e = same_set_on tuples (rows v q (value_of_tables words v db)) (rows v q w) s (means_by_tables v q w e)

  -- its cells over the tables are a part of its pattern
  pub pattern_by_tables : (q : PlainQuery) → IsSublist (query_pattern (cells_found words db) q) (pattern h actions q)
  pattern_by_tables q = pattern_part (cells_found words db) (patterns h actions) cells_part q

  -- its size over the tables is at most that over the history
  pub size_by_tables : (q : PlainQuery) → size (rows_found db) q ≤ size (count h actions) q
  size_by_tables q = size_grows (rows_found db) (count h actions) tables_counted q
