-- Tables go on being worth what a history and further actions make, as these grow by one step and the tables by the same.
use Rattle.std.{proofs.Common.{◌≡◌, ℕ, Bool, true, false, ◌||◌, List, [], ◌∷◌, ◌++◌, map, refl, ap, sym, subst, ◌∙◌}, proofs.lemmas.List.{append-nil, map_push}}
use Rattle.std.{specs.Prelude.{Option, Some, None, option_and_then, IfSome, length, if◌then◌else◌}, specs.List.{IsDistinct, AllByRecursion, list_any}}
use Rattle.std.{proofs.lemmas.Map.Keys.{IsDistinct-push, IsDistinct-head, IsDistinct-tail}, proofs.lemmas.Cmp.nat_list_eq_equiv}
use Rattle.std.proofs.lemmas.List.Elements.{All-nil, All-weaker, All-push, All-from_recursion, recursion_from_All}
use Rattle.ct_word.{specs.declared.values.Value.Value, specs.declared.values.Term.Term, specs.declared.values.CRow.CRow}
use Rattle.ct_word.{specs.Value.{World, same_text, same_cells}, specs.Sublist.IsSublist, specs.WellFormed.IsWellFormed, proofs.Alike.text_decides}
use Rattle.ct_word.specs.Change.{PlainCommit}
use Rattle.ct_query.{specs.Plain.PlainAction, specs.Database.{Relation, Database, SameSet, with_tuples, SameRelation, SameDatabase, changed}}
use Rattle.ct_query.{specs.Step.{created, inserted, only_if}, specs.Worlds.world, specs.Patterns.patterns, proofs.SameRows.same_database_append}
use Rattle.ct_query.{proofs.Sets.{same_set_itself, same_set_on, same_set-append}, proofs.Sublists.{nothing_of, sublist-append, sublist_of_sublist}}
use Rattle.ct_operators.{specs.Tables.{cells_of, value_of_rows, AreRows}, proofs.Firsts.none_distinct, proofs.Growing.{value_grows, cells_grow, rows_grow}}
use Rattle.ct_table.{specs.Denotes.{TableView, value_of_tables, IsKept, heading_of, AreWorth, find_table, with_table}, specs.Following.Follows}
use Rattle.ct_table.proofs.Entries.{cases, unalike}
use mathlib.Core.List.{IsPrefix}

-- a table that is found is the first of the tables or is found among the others
found_by : {P : Type 0} (name : List ℕ) (t x : TableView) (db : List TableView) → find_table (x ∷ db) name ≡ Some t
    → (same_text x.name name ≡ true → x ≡ t → x.name ≡ name → P) → (same_text x.name name ≡ false → find_table db name ≡ Some t → P) → P
found_by name t x db f first later = cases (same_text x.name name)
    (λ p.
    let same : Some x ≡ Some t = sym (ap (λ b. if b then Some x else find_table db name) p) ∙ f in
    let is : x ≡ t = cc in
    first p is ((text_decides x.name name).0 p))
    (λ p. later p (sym (ap (λ b. if b then Some x else find_table db name) p) ∙ f))

-- a name that no table has
absent_any : (name : List ℕ) (db : List TableView) → find_table db name ≡ None → list_any (same_text name) (map (λ t. t.name) db) ≡ false
absent_any name [] e = refl
absent_any name (t ∷ db) e = cases (same_text t.name name)
    (λ p. let bad : Some t ≡ None = sym (ap (λ b. if b then Some t else find_table db name) p) ∙ e in cc)
    (λ p. ap (λ b. b || list_any (same_text name) (map (λ t. t.name) db)) (unalike t.name name p)
    ∙ absent_any name db (sym (ap (λ b. if b then Some t else find_table db name) p) ∙ e))

-- the relation that a table is worth
abbrev pub relation_of : List ℕ → World → TableView → Relation
relation_of words v t = record { name = t.name; columns = t.columns; tuples = value_of_rows words v t.rows }

-- a table without rows
abbrev pub empty_table : List ℕ → List (List ℕ) → TableView
empty_table name columns = record { name = name; columns = columns; rows = [] }

-- a database in which no table has a name stays when the table of that name is changed
others_stay : (name : List ℕ) (change : List (List Value) → List (List Value)) (v : World) (words : List ℕ) (db : List TableView) (w : Database)
    → AllByRecursion (λ n. same_text name n ≡ false) (map (λ t. t.name) db)
    → SameDatabase (value_of_tables words v db) w → SameDatabase (value_of_tables words v db) (changed w name change)
others_stay name change v words [] [] others s = tt
others_stay name change v words (t ∷ db) (r ∷ w) others s = (
  subst (λ a. SameRelation (relation_of words v t) a) (sym (ap (λ b. if b then with_tuples r (change r.tuples) else r) kept)) s.0,
  others_stay name change v words db w others.1 s.1,
) where
  kept : same_text r.name name ≡ false
  kept = ap (λ n. same_text n name) (sym s.0.name) ∙ unalike name t.name others.0
others_stay name change v words [] (r ∷ w) others s = absurd s
others_stay name change v words (t ∷ db) [] others s = absurd s

-- a table of these rows, and of the columns of another
abbrev pub with_rows : List ℕ → TableView → List CRow → TableView
with_rows name t rows = record { name = name; columns = t.columns; rows = rows }

-- the names after the first table are others
others_of : (name : List ℕ) (names : List (List ℕ)) (first : List ℕ) → first ≡ name → IsDistinct same_text (first ∷ names)
    → AllByRecursion (λ n. same_text name n ≡ false) names
others_of name names first e d = subst (λ f. AllByRecursion (λ n. same_text f n ≡ false) names) e (IsDistinct-head same_text first names d)

module _ (v : World) (words : List ℕ) (name : List ℕ) (change : List (List Value) → List (List Value)) (t : TableView) (rows : List CRow)
    (tuples : (ts : List (List Value)) → SameSet (value_of_rows words v t.rows) ts → SameSet (value_of_rows words v rows) (change ts)) where
  -- the first relation, where its table is the one that is changed
  first_changed : (x : TableView) (r : Relation) → x ≡ t → x.name ≡ name → SameRelation (relation_of words v x) r
      → SameRelation (relation_of words v (with_rows name t rows)) (with_tuples r (change r.tuples))
  first_changed x r e n s = record {
    name = sym n ∙ s.name;
    columns = ap (λ y. y.columns) (sym e) ∙ s.columns;
    tuples = tuples r.tuples (subst (λ y. SameSet (value_of_rows words v y.rows) r.tuples) e s.tuples);
  }

  changed_same : (db : List TableView) (w : Database) → find_table db name ≡ Some t → IsDistinct same_text (map (λ x. x.name) db)
      → SameDatabase (value_of_tables words v db) w → SameDatabase (value_of_tables words v (with_table db (with_rows name t rows))) (changed w name change)
  changed_same [] w f d s = let bad : None ≡ Some t = f in cc
  changed_same (x ∷ db) [] f d s = absurd s
  changed_same (x ∷ db) (r ∷ w) f d s =
      let here : same_text r.name name ≡ same_text x.name name = ap (λ n. same_text n name) (sym s.0.name) in
      let new = with_rows name t rows in
      let table = λ (b : Bool). if b then new ∷ db else x ∷ with_table db new in
      let relation = λ (b : Bool). if b then with_tuples r (change r.tuples) else r in
      found_by name t x db f
      (λ p is n.
      subst (λ a. SameDatabase (value_of_tables words v a) (changed (r ∷ w) name change)) (sym (ap table p)) (
        subst (λ a. SameRelation (relation_of words v new) a) (sym (ap relation (here ∙ p))) (first_changed x r is n s.0),
        others_stay name change v words db w (others_of name (map (λ x. x.name) db) x.name n d) s.1,
      ))
      (λ p later.
      subst (λ a. SameDatabase (value_of_tables words v a) (changed (r ∷ w) name change)) (sym (ap table p)) (
        subst (λ a. SameRelation (relation_of words v x) a) (sym (ap relation (here ∙ p))) s.0,
        changed_same db w later (IsDistinct-tail same_text x.name (map (λ x. x.name) db) d) s.1,
      ))

-- what is true of each table and of a new one is true of each after the new one took its place
pub all_with_table : (P : TableView → Type 0) (db : List TableView) (new : TableView) → AllByRecursion P db → P new → AllByRecursion P (with_table db new)
all_with_table P [] new all p = (p, tt)
all_with_table P (x ∷ db) new all p = by_test (same_text x.name new.name) (all_with_table P db new all.1 p) where
  by_test : (b : Bool) → AllByRecursion P (with_table db new) → AllByRecursion P (if b then new ∷ db else x ∷ with_table db new)
  by_test true rest = (p, all.1)
  by_test false rest = (all.0, rest)

-- a table that takes the place of one with the same name and columns leaves the headings
pub headings_stay : (name : List ℕ) (t : TableView) (rows : List CRow) (db : List TableView) → find_table db name ≡ Some t
    → map heading_of (with_table db (with_rows name t rows)) ≡ map heading_of db
headings_stay name t rows [] f = let bad : None ≡ Some t = f in cc
headings_stay name t rows (x ∷ db) f =
    let headings = λ (b : Bool). map heading_of (if b then with_rows name t rows ∷ db else x ∷ with_table db (with_rows name t rows)) in
    found_by name t x db f
    (λ p is n. ap headings p ∙ (λ i. record { name = sym n i; columns = (sym is i).columns } ∷ map heading_of db))
    (λ p later. ap headings p ∙ ap (λ hs. heading_of x ∷ hs) (headings_stay name t rows db later))

-- the names of tables are those of their headings
names_by_headings : (db : List TableView) → map (λ x. x.name) (map heading_of db) ≡ map (λ x. x.name) db
names_by_headings [] = refl
names_by_headings (x ∷ db) = ap (λ ns. x.name ∷ ns) (names_by_headings db)

-- the first table of a name has that name
pub found_name : (name : List ℕ) (t : TableView) (db : List TableView) → find_table db name ≡ Some t → t.name ≡ name
found_name name t [] f = let bad : None ≡ Some t = f in cc
found_name name t (x ∷ db) f = found_by name t x db f (λ p is n. ap (λ y. y.name) (sym is) ∙ n) (λ p. found_name name t db)

-- what is true of each table is true of the one that is found
pub found_all : (P : TableView → Type 0) (name : List ℕ) (t : TableView) (db : List TableView) → AllByRecursion P db → find_table db name ≡ Some t → P t
found_all P name t [] all f = let bad : None ≡ Some t = f in cc
found_all P name t (x ∷ db) all f = found_by name t x db f (λ p is n. subst P is all.0) (λ p. found_all P name t db all.1)

module _ (words : List ℕ) (h : List PlainCommit) (actions : List PlainAction) (h' : List PlainCommit) (actions' : List PlainAction)
    (db : List TableView) (d : AreWorth words h actions db) where
  -- what tables are worth after a step
  pub worth_after : (step : World → Database → Option Database) → ((v : World) → world v h' actions' ≡ option_and_then (step v) (world v h actions)) → (after : List TableView)
      → ((v : World) (w : Database) → world v h actions ≡ Some w → SameDatabase (value_of_tables words v db) w → IfSome (step v w) (λ u. SameDatabase (value_of_tables words v after) u))
      → (v : World) → IfSome (world v h' actions') (λ w. SameDatabase (value_of_tables words v after) w)
  worth_after step worlds after each v =
      subst (λ o. IfSome o (λ w. SameDatabase (value_of_tables words v after) w)) (sym (worlds v)) (by_world (world v h actions) refl (d.tables v)) where
        by_world : (o : Option Database) → world v h actions ≡ o → IfSome o (λ w. SameDatabase (value_of_tables words v db) w)
            → IfSome (option_and_then (step v) o) (λ u. SameDatabase (value_of_tables words v after) u)
        by_world None e s = tt
        by_world (Some w) e s = each v w e s

  module _ (grow : (n : List ℕ) → IsSublist (patterns h actions n) (patterns h' actions' n)) where
    pub kept_on : (t : TableView) → IsKept words h actions t → IsKept words h' actions' t
    kept_on t k = record { rows = k.rows; in_pattern = sublist_of_sublist _ _ _ k.in_pattern (grow t.name) }

  -- the pattern of a table that is found
  pub found_pattern : (name : List ℕ) (t : TableView) → find_table db name ≡ Some t → IsSublist (cells_of words t.rows) (patterns h actions name)
  found_pattern name t found =
      subst (λ n. IsSublist (cells_of words t.rows) (patterns h actions n)) (found_name name t db found)
      (found_all (IsKept words h actions) name t db (recursion_from_All (IsKept words h actions) db d.kept) found).in_pattern

  -- cells that are a part of those of a table and of further ones are a part of the pattern with the further ones
  pub part_after : (name : List ℕ) (t : TableView) → find_table db name ≡ Some t → (cells lines more : List (List Term)) → IsSublist cells (cells_of words t.rows ++ lines)
      → IsSublist lines more → patterns h' actions' name ≡ patterns h actions name ++ more → IsSublist cells (patterns h' actions' name)
  part_after name t found cells lines more part among e =
      subst (λ p. IsSublist cells p) (sym e)
      (sublist_of_sublist _ _ _ part (sublist-append (cells_of words t.rows) (patterns h actions name) lines more (found_pattern name t found) among))

  -- after a new table
  pub created_worth : (name : List ℕ) (columns : List (List ℕ)) → Follows h actions h' actions' (λ v w. Some (created w name columns)) (record { name = name; columns = columns } ∷ [])
      → find_table db name ≡ None → AreWorth words h' actions' (db ++ empty_table name columns ∷ [])
  created_worth name columns f new = record {
    tables = worth_after (λ v w. Some (created w name columns)) f.worlds (db ++ empty_table name columns ∷ []) (λ v w e s.
        subst (λ a. SameDatabase a (created w name columns)) (sym (map_push (relation_of words v) db (empty_table name columns)))
        (same_database_append (value_of_tables words v db) w _ (record { name = name; columns = columns; tuples = [] } ∷ []) s
        (record { name = refl; columns = refl; tuples = λ t. refl }, tt)));
    kept = All-push (IsKept words h' actions') db (empty_table name columns) (All-weaker _ _ (kept_on f.patterns) db d.kept)
        (record { rows = record { each = All-nil _; distinct = none_distinct same_cells; possible = All-nil _ }; in_pattern = nothing_of _ });
    names =
        subst (IsDistinct same_text) (sym (map_push (λ (t : TableView). t.name) db (empty_table name columns)))
        (IsDistinct-push nat_list_eq_equiv (map (λ t. t.name) db) name d.names (absent_any name db new));
    headings = map_push heading_of db (empty_table name columns) ∙ ap (λ hs. hs ++ record { name = name; columns = columns } ∷ []) d.headings ∙ sym f.headings;
  }

  -- after other rows for a table
  pub changed_worth : (name : List ℕ) (change : World → Database → List (List Value) → List (List Value)) → Follows h actions h' actions' (λ v w. Some (changed w name (change v w))) []
      → (t : TableView) (rows : List CRow) → find_table db name ≡ Some t
      → ((v : World) (w : Database) → world v h actions ≡ Some w → (ts : List (List Value)) → SameSet (value_of_rows words v t.rows) ts → SameSet (value_of_rows words v rows) (change v w ts))
      → AreRows words (length t.columns) rows → IsSublist (cells_of words rows) (patterns h' actions' name) → AreWorth words h' actions' (with_table db (with_rows name t rows))
  changed_worth name change f t rows found tuples are part = record {
    tables = worth_after (λ v w. Some (changed w name (change v w))) f.worlds (with_table db (with_rows name t rows)) (λ v w e s.
        changed_same v words name (change v w) t rows (tuples v w e) db w found d.names s);
    kept = All-from_recursion _ _ (all_with_table (IsKept words h' actions') db (with_rows name t rows)
        (recursion_from_All _ db (All-weaker _ _ (kept_on f.patterns) db d.kept)) (record { rows = are; in_pattern = part }));
    names = subst (IsDistinct same_text)
        (sym (names_by_headings db) ∙ ap (map (λ x. x.name)) (sym (headings_stay name t rows db found)) ∙ names_by_headings (with_table db (with_rows name t rows))) d.names;
    headings = headings_stay name t rows db found ∙ d.headings ∙ sym (f.headings ∙ append-nil _);
  }

  -- after further rows
  pub inserted_worth : (name : List ℕ) (more : World → Database → List (List Value)) → Follows h actions h' actions' (λ v w. Some (inserted w name (more v w))) []
      → (t : TableView) (rows : List CRow) → find_table db name ≡ Some t
      → ((v : World) (w : Database) → world v h actions ≡ Some w → SameSet (value_of_rows words v rows) (value_of_rows words v t.rows ++ more v w))
      → AreRows words (length t.columns) rows → IsSublist (cells_of words rows) (patterns h' actions' name) → AreWorth words h' actions' (with_table db (with_rows name t rows))
  inserted_worth name more f t rows found tuples are part =
      changed_worth name (λ v w ts. ts ++ more v w) f t rows found
      (λ v w e ts s. same_set_on _ _ _ (tuples v w e) (same_set-append (value_of_rows words v t.rows) ts (more v w) (more v w) s (same_set_itself (more v w)))) are part

  -- after an assertion, whatever it tests
  pub asserted_worth : (test : World → Database → Bool) → Follows h actions h' actions' (λ v w. only_if (test v w) w) [] → AreWorth words h' actions' db
  asserted_worth test f = record {
    tables = worth_after (λ v w. only_if (test v w) w) f.worlds db (λ v w e s. where_holds v w (test v w) s);
    kept = All-weaker _ _ (kept_on f.patterns) db d.kept;
    names = d.names;
    headings = d.headings ∙ sym (f.headings ∙ append-nil _);
  } where
    where_holds : (v : World) (w : Database) (b : Bool) → SameDatabase (value_of_tables words v db) w → IfSome (if b then Some w else None) (λ u. SameDatabase (value_of_tables words v db) u)
    where_holds v w true s = s
    where_holds v w false s = tt

module _ (ws xs : List ℕ) (grown : IsPrefix ws xs) (formed : IsWellFormed ws) (h : List PlainCommit) (actions : List PlainAction) where
  relation_grows : (v : World) (t : TableView) → IsKept ws h actions t → relation_of xs v t ≡ relation_of ws v t
  relation_grows v t k = λ i. record { name = t.name; columns = t.columns; tuples = value_grows ws xs grown v (length t.columns) t.rows k.rows.each i }

  tables_grow : (v : World) (db : List TableView) → AllByRecursion (IsKept ws h actions) db → value_of_tables xs v db ≡ value_of_tables ws v db
  tables_grow v [] all = refl
  tables_grow v (t ∷ db) all = λ i. relation_grows v t all.0 i ∷ tables_grow v db all.1 i

  kept_as_words_grow : (t : TableView) → IsKept ws h actions t → IsKept xs h actions t
  kept_as_words_grow t k = record {
    rows = rows_grow ws xs grown formed (length t.columns) t.rows k.rows;
    in_pattern = subst (λ cs. IsSublist cs (patterns h actions t.name)) (sym (cells_grow ws xs grown (length t.columns) t.rows k.rows.each)) k.in_pattern;
  }

  -- tables are worth the same over more words
  pub worth_grows : (db : List TableView) → AreWorth ws h actions db → AreWorth xs h actions db
  worth_grows db d = record {
    tables = λ v. by_world v (world v h actions) (d.tables v);
    kept = All-weaker _ _ kept_as_words_grow db d.kept;
    names = d.names;
    headings = d.headings;
  } where
    by_world : (v : World) (o : Option Database) → IfSome o (λ w. SameDatabase (value_of_tables ws v db) w) → IfSome o (λ w. SameDatabase (value_of_tables xs v db) w)
    by_world v None s = tt
    by_world v (Some w) s = subst (λ a. SameDatabase a w) (sym (tables_grow v db (recursion_from_All (IsKept ws h actions) db d.kept))) s
