-- Tables go on denoting a history and further actions, by the operator's contract, as one action more is done.
use Rattle.std.proofs.Common.{◌≡◌, ℕ, Bool, true, false, not, List, [], ◌∷◌, ◌++◌, map, length, refl, ap, sym, subst, ◌∙◌, inl, inr}
use Rattle.std.{specs.Prelude.{◌⊎◌, Option, Some, None, All, filter, option_and_then, if◌then◌else◌}, specs.List.{Contains, AllByRecursion}}
use Rattle.std.proofs.lemmas.List.{append-nil}
use Rattle.std.proofs.lemmas.List.Elements.{All-contains, All-contains_itself, All-from_recursion, recursion_from_All, Contains-push, Contains-append_left}
use Rattle.ct_word.{specs.declared.values.Term.Term, specs.declared.values.CRow.CRow, specs.Value.{World, same_text, tuple_at}, specs.Sublist.IsSublist}
use Rattle.ct_word.{specs.Condition.{Condition, SameTruth, holds, holds_at}, specs.WellFormed.IsWellFormed, specs.Change.{PlainRow, Assert, PlainCommit}}
use Rattle.ct_word.{specs.Reading.{condition_at, term_at, plain_crow}, specs.Stands.TermBelow}
use Rattle.ct_query.{specs.Plain.{PlainQuery, PlainAction}, specs.Database.{Database, SameSet, tuples_of, with_tuples}, specs.Rows.rows, specs.Worlds.world}
use Rattle.ct_query.{specs.Step.{inserted, only_if, step_action}, specs.Patterns.{patterns, pattern, query_pattern}, specs.Reads.{tables_of, query_reads, action_reads}}
use Rattle.ct_query.{specs.Updates.{Sets, updated, with_updated}, specs.Assertions.{as_wanted, is_key}}
use Rattle.ct_query.{specs.Agrees.{SameTruthAlone, HoldsWhereKept, AgreesWith}, specs.Terms.{condition_terms, query_terms, action_terms}, specs.Frame.reads_of_actions}
use Rattle.ct_query.{proofs.Laws.patterns_action, proofs.Sets.{same_set_itself, same_set_on}, proofs.Sublists.{all_of, sublist_of_sublist}}
use Rattle.ct_query.proofs.Within.{of_added}
use Rattle.ct_condition.specs.Terms.{BelowSome}
use Rattle.ct_operators.{specs.Tables.{cells_of, value_of_rows, AreRows}, specs.Terms.{TermOfRows, RowsFrom, IsNoColumn}, proofs.Naming.{mapped, given}}
use Rattle.ct_operators.proofs.Reaching.{first_or_behind, from_rows, behind}
use Rattle.ct_table.{specs.Denotes.{TableView, value_of_tables, IsTermFor, by_change, by_action, Denotes, find_table, with_table}, specs.Following.{Follows, Asserts}}
use Rattle.ct_table.{proofs.Following.{action_follows, more_read, lines_here, sets_here, kept_where_asserted}, proofs.Denoting.{empty_table, with_rows}}
use Rattle.ct_table.proofs.ByTables.{cells_found, means_by_tables, pattern_by_tables}
use Rattle.ct_table.proofs.Changing.{found_from, created_after, inserted_after, deleted_after, updated_after, asserted_after}
use mathlib.Core.List.{IsPrefix}
use Rattle.ct_query.specs.Plain as plain
use Rattle.ct_query.specs.declared.action.Read.TheVariants as read

-- nothing is inserted
nothing_inserted : (w : Database) (n : List ℕ) → inserted w n [] ≡ w
nothing_inserted [] n = refl
nothing_inserted (r ∷ w) n = let rest = nothing_inserted w n in let first = by_test (same_text r.name n) in λ i. first i ∷ rest i where
  by_test : (b : Bool) → (if b then with_tuples r (r.tuples ++ []) else r) ≡ r
  by_test true = λ i. with_tuples r (append-nil r.tuples i)
  by_test false = refl

-- what rows under one truth are worth
pub rows_where : (words : List ℕ) (v : World) (c : Condition) (more : List CRow) (b : Bool) → holds_at v c ≡ b → AllByRecursion (λ r. SameTruthAlone (condition_at words r.cond) c) more
    → value_of_rows words v more ≡ (if b then map (tuple_at v) (cells_of words more) else [])
rows_where words v c [] true e all = refl
rows_where words v c [] false e all = refl
rows_where words v c (r ∷ more) true e all =
    ap (λ b. map (λ (x : PlainRow). tuple_at v x.cells) (if b then plain_crow words r ∷ filter (λ x. holds_at v x.condition) (map (plain_crow words) more) else filter (λ x. holds_at v x.condition) (map (plain_crow words) more))) (all.0 v ∙ e)
    ∙ ap (λ l. tuple_at v (map (term_at words) r.cells) ∷ l) (rows_where words v c more true e all.1)
rows_where words v c (r ∷ more) false e all =
    ap (λ b. map (λ (x : PlainRow). tuple_at v x.cells) (if b then plain_crow words r ∷ filter (λ x. holds_at v x.condition) (map (plain_crow words) more) else filter (λ x. holds_at v x.condition) (map (plain_crow words) more))) (all.0 v ∙ e)
    ∙ rows_where words v c more false e all.1

module _ (h : List PlainCommit) (before : List PlainAction) where
  -- an assertion of the history agrees with actions that assert only
  pub asserts_by : (a : PlainAction) (c : Condition) → AgreesWith h before a (Assert c) → Asserts a
  asserts_by (plain.Assert p) c agrees = tt
  asserts_by (plain.AssertQuery wanted q) c agrees = tt
  asserts_by (plain.AssertKey name columns) c agrees = tt
  asserts_by _ c agrees = absurd agrees

  -- and its condition holds exactly where the action keeps the database
  pub kept_by : (a : PlainAction) (c : Condition) → AgreesWith h before a (Assert c) → HoldsWhereKept h before a c
  kept_by (plain.Assert p) c agrees = λ v. kept_where_asserted v c p (agrees v) (world v h before)
  kept_by (plain.AssertQuery wanted q) c agrees = agrees
  kept_by (plain.AssertKey name columns) c agrees = agrees
  kept_by _ c agrees = absurd agrees

-- a table of a query is one of its reads
table_read : (q : PlainQuery) (n : List ℕ) → Contains (tables_of q) n → Contains (query_reads q) (read.Table n)
table_read q n h =
    let all = map read.Table (tables_of q) ++ read.Worlds ∷ [] in
    All-contains (Contains (query_reads q)) all (read.Table n)
    (All-from_recursion (Contains (query_reads q)) all
    (of_added (Contains (query_reads q)) [] all (recursion_from_All (Contains (query_reads q)) (query_reads q) (All-contains_itself (query_reads q)))).1)
    (Contains-append_left (map read.Table (tables_of q)) (read.Worlds ∷ []) (read.Table n) (mapped read.Table (tables_of q) n h))

-- a term stands below a table that a query reads
pub record IsReadBelow (words : List ℕ) (db : List TableView) (q : PlainQuery) (u : Term) : Type 0 where
  pub name : List ℕ
  pub is_read : Contains (tables_of q) name
  pub table : TableView
  pub found : find_table db name ≡ Some table
  pub below : TermOfRows words table.rows u

module _ (old new : List ℕ) (longer : IsPrefix old new) (formed : IsWellFormed new) (h : List PlainCommit) (actions : List PlainAction) (db : List TableView) (d : Denotes old h actions db) where
  kept_denotes : (a : PlainAction) (test : World → Database → Bool) → Follows h actions h (actions ++ a ∷ []) (λ v w. only_if (test v w) w) [] → Denotes new h (actions ++ a ∷ []) db
  kept_denotes a test f = asserted_after old new longer formed h actions h (actions ++ a ∷ []) db d d.writable test f

  -- CREATE
  pub created_by : (name : List ℕ) (columns : List (List ℕ)) → find_table db name ≡ None → Denotes new h (actions ++ plain.Create name columns ∷ []) (db ++ empty_table name columns ∷ [])
  created_by name columns none =
      created_after old new longer formed h actions h (actions ++ plain.Create name columns ∷ []) db d d.writable name columns (action_follows h actions (plain.Create name columns)) none

  -- ASSERT, of a condition, a query or a key
  pub asserted_by : (a : PlainAction) → Asserts a → Denotes new h (actions ++ a ∷ []) db
  asserted_by (plain.Assert c) is = kept_denotes (plain.Assert c) (λ v w. holds_at v c) (action_follows h actions (plain.Assert c))
  asserted_by (plain.AssertQuery wanted q) is = kept_denotes (plain.AssertQuery wanted q) (λ v w. as_wanted wanted (rows v q w)) (action_follows h actions (plain.AssertQuery wanted q))
  asserted_by (plain.AssertKey name columns) is = kept_denotes (plain.AssertKey name columns) (λ v w. is_key columns (tuples_of w name)) (action_follows h actions (plain.AssertKey name columns))
  asserted_by _ is = absurd is

  module _ (name : List ℕ) (t : TableView) (found : find_table db name ≡ Some t) (rows' : List CRow) (are : AreRows new (length t.columns) rows') where
    -- INSERT of rows under a condition: rows of these cells, each under a condition of the same truth, whose terms the action has
    module _ (lists : List (List Term)) (c : Condition) where
      adds_where : (v : World) (w : Database) → step_action v w (plain.InsertRows name lists c) ≡ Some (inserted w name (if holds_at v c then map (tuple_at v) lists else []))
      adds_where v w = by_test (holds_at v c) where
        by_test : (b : Bool) → (let o : Option Database = Some (if b then inserted w name (map (tuple_at v) lists) else w) in o) ≡ Some (inserted w name (if b then map (tuple_at v) lists else []))
        by_test true = refl
        by_test false = ap (λ x. Some x) (sym (nothing_inserted w name))

      pub rows_follow : Follows h actions h (actions ++ plain.InsertRows name lists c ∷ []) (λ v w. Some (inserted w name (if holds_at v c then map (tuple_at v) lists else []))) []
      rows_follow =
          let f = action_follows h actions (plain.InsertRows name lists c) in
          record {
            worlds = λ v. f.worlds v ∙ (λ i. option_and_then (λ w. adds_where v w i) (world v h actions));
            headings = f.headings;
            patterns = f.patterns;
            terms = f.terms;
          }

      pub inserted_by : (more : List CRow) → cells_of old more ≡ lists → All (λ r. SameTruthAlone (condition_at old r.cond) c) more
          → ((u : Term) → TermOfRows old more u → Contains (action_terms (plain.InsertRows name lists c)) u)
          → ((v : World) → SameSet (value_of_rows new v rows') (value_of_rows old v t.rows ++ value_of_rows old v more))
          → IsSublist (cells_of new rows') (cells_of old t.rows ++ cells_of old more)
          → RowsFrom new rows' (TermOfRows old (t.rows ++ more)) → Denotes new h (actions ++ plain.InsertRows name lists c ∷ []) (with_table db (with_rows name t rows'))
      inserted_by more cells truths named =
          let a = plain.InsertRows name lists c in
          inserted_after old new longer formed h actions h (actions ++ a ∷ []) db d d.writable name t found rows' are
          (λ v w. if holds_at v c then map (tuple_at v) lists else []) rows_follow more
          (λ v w e. subst (SameSet (value_of_rows old v more))
          (rows_where old v c more (holds_at v c) refl (recursion_from_All (λ (r : CRow). SameTruthAlone (condition_at old r.cond) c) more truths) ∙ (λ i. if holds_at v c then map (tuple_at v) (cells i) else []))
          (same_set_itself (value_of_rows old v more)))
          lists (subst (IsSublist (cells_of old more)) cells (all_of (cells_of old more)))
          ((λ i. patterns_action h actions a i name) ∙ lines_here (patterns h actions) name lists)
          (λ u b. by_action a (Contains-push actions a) (named u b))

    -- INSERT of a query's rows: the answer over the tables, with terms of the tables that the query reads and its own
    module _ (q : PlainQuery) where
      was_read : (n : List ℕ) → Contains (tables_of q) n → (u : Term) → IsTermFor h actions (read.Table n) u → IsTermFor h (actions ++ plain.InsertQuery name q ∷ []) (read.Table name) u
      was_read n h' u (by_change y s among of writes stands) = by_change y s among by_case writes stands where
        by_case : Contains (read.Table name ∷ reads_of_actions (actions ++ plain.InsertQuery name q ∷ [])) s
        by_case = elim (first_or_behind (read.Table n) (reads_of_actions actions) s of) [
          | inl e ↦
              behind (read.Table name) (reads_of_actions (actions ++ plain.InsertQuery name q ∷ [])) s
              (given action_reads (actions ++ plain.InsertQuery name q ∷ []) (plain.InsertQuery name q) s (Contains-push actions (plain.InsertQuery name q))
              (subst (Contains (query_reads q)) e (table_read q n h')))
          | inr b ↦ more_read h actions (plain.InsertQuery name q) (read.Table name) s (behind (read.Table name) (reads_of_actions actions) s b)
        ]
      was_read n h' u (by_action b among stands) = by_action b (Contains-append_left actions (plain.InsertQuery name q ∷ []) b among) stands

      pub answer_inserted_by : (more : List CRow) → ((v : World) → SameSet (value_of_rows old v more) (rows v q (value_of_tables old v db)))
          → IsSublist (cells_of old more) (query_pattern (cells_found old db) q)
          → ((u : Term) → TermOfRows old more u → IsReadBelow old db q u ⊎ Contains (query_terms q) u)
          → ((v : World) → SameSet (value_of_rows new v rows') (value_of_rows old v t.rows ++ value_of_rows old v more))
          → IsSublist (cells_of new rows') (cells_of old t.rows ++ cells_of old more)
          → RowsFrom new rows' (TermOfRows old (t.rows ++ more)) → Denotes new h (actions ++ plain.InsertQuery name q ∷ []) (with_table db (with_rows name t rows'))
      answer_inserted_by more answers in_query named =
          let a = plain.InsertQuery name q in
          inserted_after old new longer formed h actions h (actions ++ a ∷ []) db d d.writable name t found rows' are
          (λ v w. rows v q w) (action_follows h actions a) more
          (λ v w e. same_set_on (value_of_rows old v more) (rows v q (value_of_tables old v db)) (rows v q w) (answers v) (means_by_tables old h actions db d.worth v q w e))
          (pattern h actions q) (sublist_of_sublist _ _ _ in_query (pattern_by_tables old h actions db d.worth q))
          ((λ i. patterns_action h actions a i name) ∙ lines_here (patterns h actions) name (pattern h actions q))
          (λ u b. elim (named u b) [
            | inl r ↦
                was_read r.name r.is_read u
                (from_rows old r.table.rows (IsTermFor h actions (read.Table r.name)) (found_from old h actions h actions db d (λ s x i. i) d.writable r.name r.table r.found) u r.below)
            | inr n ↦ by_action a (Contains-push actions a) n
          ])

    -- DELETE
    pub deleted_by : (c : Condition) (cond : ℕ) → SameTruth (condition_at old cond) c
        → ((u : Term) → TermBelow old cond u → IsNoColumn u → Contains (condition_terms c) u)
        → ((v : World) → SameSet (value_of_rows new v rows') (filter (λ x. not (holds v x (condition_at old cond))) (value_of_rows old v t.rows)))
        → IsSublist (cells_of new rows') (cells_of old t.rows)
        → RowsFrom new rows' (λ u. TermOfRows old t.rows u ⊎ (TermBelow old cond u × IsNoColumn u)) → Denotes new h (actions ++ plain.Delete name c ∷ []) (with_table db (with_rows name t rows'))
    deleted_by c cond same named =
        let a = plain.Delete name c in
        deleted_after old new longer formed h actions h (actions ++ a ∷ []) db d d.writable name t found rows' are c (action_follows h actions a) cond same
        (λ u b n. by_action a (Contains-push actions a) (named u b n))

    -- UPDATE
    pub updated_by : (sets : Sets) (c : Condition) (cond : ℕ) → SameTruth (condition_at old cond) c
        → (places : List ℕ) → ((u : Term) → BelowSome old places u → IsNoColumn u → Contains (action_terms (plain.Update name sets c)) u)
        → ((v : World) → SameSet (value_of_rows new v rows') (updated v (condition_at old cond) sets (value_of_rows old v t.rows)))
        → IsSublist (cells_of new rows') (with_updated sets (cells_of old t.rows))
        → RowsFrom new rows' (λ u. TermOfRows old t.rows u ⊎ (BelowSome old places u × IsNoColumn u)) → Denotes new h (actions ++ plain.Update name sets c ∷ []) (with_table db (with_rows name t rows'))
    updated_by sets c cond same places named =
        let a = plain.Update name sets c in
        updated_after old new longer formed h actions h (actions ++ a ∷ []) db d d.writable name t found rows' are sets c (action_follows h actions a)
        ((λ i. patterns_action h actions a i name) ∙ sets_here (patterns h actions) name sets) cond same places
        (λ u b n. by_action a (Contains-push actions a) (named u b n))
