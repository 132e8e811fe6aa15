-- Tables go on denoting a history and further actions, by the contract of the operator that changes them.
use Rattle.std.{proofs.Common.{◌≡◌, ℕ, Bool, true, not, List, [], ◌∷◌, ◌++◌, map, length, refl, ap, sym, subst, inl, inr}, specs.List.{Contains, list_all}}
use Rattle.std.specs.Prelude.{◌⊎◌, Some, None, IsTrue, All, filter, if◌then◌else◌}
use Rattle.std.proofs.lemmas.List.Elements.{All-nil, All-weaker, All-push, All-contains, All-from_recursion, recursion_from_All, Contains-push}
use Rattle.std.proofs.lemmas.List.Elements.{Contains-append_cases, Contains-append_left, Contains-append_right}
use Rattle.ct_word.{specs.declared.values.Value.Value, specs.declared.values.Term.Term, specs.declared.values.CRow.CRow, specs.Value.{World, same_text}}
use Rattle.ct_word.{specs.Condition.{Condition, SameTruth, holds, holds_at}, specs.Sublist.IsSublist, specs.WellFormed.{IsWellFormed, is_place_of}}
use Rattle.ct_word.{specs.Writable.is_writable, specs.Change.{PlainRow, PlainChange, Create, Insert, Delete, Update, Assert, PlainCommit}, specs.Stands.TermBelow}
use Rattle.ct_word.{specs.Reading.{condition_at, term_at, plain_crow}, proofs.Alike.text_decides, proofs.Packed.{true_left, true_right, true_both}, proofs.Items.unmapped_item}
use Rattle.ct_query.{specs.Plain.PlainAction, specs.declared.action.Read.Read, specs.Database.{Database, SameSet}, specs.Rows.rows, specs.Patterns.patterns}
use Rattle.ct_query.{specs.Step.{created, inserted, deleted, set_where, only_if, shown_rows}, specs.Worlds.{world, changes_of}, proofs.SameRows.{same_set_filter, same_set_map}}
use Rattle.ct_query.{specs.Updates.{Sets, updated_tuple, updated, with_updated}, specs.Terms.{condition_terms, change_terms}}
use Rattle.ct_query.{proofs.Sets.{same_set_itself, same_set_on, same_set-append}, proofs.Sublists.{all_of, sublist_of_sublist, sublist_updated}}
use Rattle.ct_condition.{specs.Terms.BelowSome, proofs.Reached.formed_before}
use Rattle.ct_operators.{specs.Tables.{cells_of, value_of_rows, IsRow, AreRows}, specs.Terms.{TermOfRows, RowsFrom, IsNoColumn}}
use Rattle.ct_operators.{proofs.Reaching.{both_all, foremost, first_or_behind, term_alone, rows_wider, from_rows, rows_later}, proofs.Growing.{value_grows, cells_grow}}
use Rattle.ct_operators.proofs.Naming.{mapped, condition_named, rows_named}
use Rattle.ct_table.{specs.Denotes.{TableView, IsKept, AreWorth, IsTermFor, by_change, Denotes, find_table, with_table}, specs.Following.Follows}
use Rattle.ct_table.proofs.Following.{change_follows, lines_follow, sets_follow}
use Rattle.ct_table.proofs.Denoting.{empty_table, with_rows, found_name, found_all, all_with_table, found_pattern, part_after, created_worth, changed_worth, inserted_worth, asserted_worth, worth_grows}
use mathlib.Core.List.{IsPrefix}
use Rattle.ct_word.specs.declared.kinds.Class.TheVariants as class
use Rattle.ct_query.specs.declared.action.Read.TheVariants as read

-- the terms below a table come from where the definition says
abbrev ComesFrom : List ℕ → List PlainCommit → List PlainAction → TableView → Type 0
ComesFrom words h actions t = RowsFrom words t.rows (IsTermFor h actions (read.Table t.name))

module _ (words : List ℕ) (h : List PlainCommit) (actions : List PlainAction) (h' : List PlainCommit) (actions' : List PlainAction) (db : List TableView) (d : Denotes words h actions db)
    (wider : (r : Read) (t : Term) → IsTermFor h actions r t → IsTermFor h' actions' r t) (writable : IsTrue (list_all is_writable (changes_of h'))) where
  come_on : All (ComesFrom words h' actions') db
  come_on = All-weaker (ComesFrom words h actions) (ComesFrom words h' actions')
      (λ t from. rows_wider words (IsTermFor h actions (read.Table t.name)) (IsTermFor h' actions' (read.Table t.name)) (wider (read.Table t.name)) t.rows from) db d.from

  pub found_from : (name : List ℕ) (t : TableView) → find_table db name ≡ Some t → RowsFrom words t.rows (IsTermFor h' actions' (read.Table name))
  found_from name t found =
      subst (λ n. RowsFrom words t.rows (IsTermFor h' actions' (read.Table n))) (found_name name t db found)
      (found_all (ComesFrom words h' actions') name t db (recursion_from_All (ComesFrom words h' actions') db come_on) found)

  pub with_empty : (name : List ℕ) (columns : List (List ℕ)) → AreWorth words h' actions' (db ++ empty_table name columns ∷ []) → Denotes words h' actions' (db ++ empty_table name columns ∷ [])
  with_empty name columns worth = record {
    worth = worth;
    from = All-push (ComesFrom words h' actions') db (empty_table name columns) come_on (All-nil _);
    writable = writable;
  }

  with_other : (name : List ℕ) (t : TableView) (rows : List CRow) → AreWorth words h' actions' (with_table db (with_rows name t rows)) → RowsFrom words rows (IsTermFor h' actions' (read.Table name))
      → Denotes words h' actions' (with_table db (with_rows name t rows))
  with_other name t rows worth from = record {
    worth = worth;
    from = All-from_recursion (ComesFrom words h' actions') (with_table db (with_rows name t rows))
        (all_with_table (ComesFrom words h' actions') db (with_rows name t rows) (recursion_from_All (ComesFrom words h' actions') db come_on) from);
    writable = writable;
  }

  pub as_before : AreWorth words h' actions' db → Denotes words h' actions' db
  as_before worth = record { worth = worth; from = come_on; writable = writable }

module _ (ws xs : List ℕ) (grown : IsPrefix ws xs) (formed : IsWellFormed ws) (h : List PlainCommit) (actions : List PlainAction) where
  -- tables denote the same over more words
  pub denotes_grows : (db : List TableView) → Denotes ws h actions db → Denotes xs h actions db
  denotes_grows db d = record {
    worth = worth_grows ws xs grown formed h actions db d.worth;
    from = both_all (IsKept ws h actions) (ComesFrom ws h actions) (ComesFrom xs h actions)
        (λ t k from. rows_later ws xs grown formed (length t.columns) (IsTermFor h actions (read.Table t.name)) t.rows k.rows.each from) db d.worth.kept d.from;
    writable = d.writable;
  }

-- words before and after a call that changes tables, and a history and actions before and after
module _ (old new : List ℕ) (longer : IsPrefix old new) (formed : IsWellFormed new) (h : List PlainCommit) (actions : List PlainAction) (h' : List PlainCommit) (actions' : List PlainAction)
    (db : List TableView) (d : Denotes old h actions db) (writable : IsTrue (list_all is_writable (changes_of h'))) where
  first_formed : IsWellFormed old
  first_formed = formed_before old new longer formed

  now : Denotes new h actions db
  now = denotes_grows old new longer first_formed h actions db d

  -- after the empty table
  pub created_after : (name : List ℕ) (columns : List (List ℕ)) → Follows h actions h' actions' (λ v w. Some (created w name columns)) (record { name = name; columns = columns } ∷ [])
      → find_table db name ≡ None → Denotes new h' actions' (db ++ empty_table name columns ∷ [])
  created_after name columns f none = with_empty new h actions h' actions' db now f.terms writable name columns (created_worth new h actions h' actions' db now.worth name columns f none)

  -- after an assertion, whatever it tests
  pub asserted_after : (test : World → Database → Bool) → Follows h actions h' actions' (λ v w. only_if (test v w) w) [] → Denotes new h' actions' db
  asserted_after test f = as_before new h actions h' actions' db now f.terms writable (asserted_worth new h actions h' actions' db now.worth test f)

  -- the rows of one of the tables, and others in their place
  module _ (name : List ℕ) (t : TableView) (found : find_table db name ≡ Some t) (rows : List CRow) (are : AreRows new (length t.columns) rows) where
    its_rows : AreRows old (length t.columns) t.rows
    its_rows = (found_all (IsKept old h actions) name t db (recursion_from_All (IsKept old h actions) db d.worth.kept) found).rows

    same_value_now : (v : World) → value_of_rows new v t.rows ≡ value_of_rows old v t.rows
    same_value_now v = value_grows old new longer v (length t.columns) t.rows its_rows.each

    same_cells_now : cells_of new t.rows ≡ cells_of old t.rows
    same_cells_now = cells_grow old new longer (length t.columns) t.rows its_rows.each

    -- after `insert` of further rows, which are worth what the step adds
    pub inserted_after : (more_of : World → Database → List (List Value)) → Follows h actions h' actions' (λ v w. Some (inserted w name (more_of v w))) [] → (more : List CRow)
        → ((v : World) (w : Database) → world v h actions ≡ Some w → SameSet (value_of_rows old v more) (more_of v w))
        → (lines : List (List Term)) → IsSublist (cells_of old more) lines → patterns h' actions' name ≡ patterns h actions name ++ lines
        → ((u : Term) → TermOfRows old more u → IsTermFor h' actions' (read.Table name) u)
        → ((v : World) → SameSet (value_of_rows new v rows) (value_of_rows old v t.rows ++ value_of_rows old v more))
        → IsSublist (cells_of new rows) (cells_of old t.rows ++ cells_of old more)
        → RowsFrom new rows (TermOfRows old (t.rows ++ more)) → Denotes new h' actions' (with_table db (with_rows name t rows))
    inserted_after more_of f more worths lines among grows named tuples part terms =
        with_other new h actions h' actions' db now f.terms writable name t rows
        (inserted_worth new h actions h' actions' db now.worth name more_of f t rows found
        (λ v w e. subst (λ x. SameSet (value_of_rows new v rows) (x ++ more_of v w)) (sym (same_value_now v))
        (same_set_on _ _ _ (tuples v) (same_set-append (value_of_rows old v t.rows) (value_of_rows old v t.rows) (value_of_rows old v more) (more_of v w)
        (same_set_itself (value_of_rows old v t.rows)) (worths v w e)))) are
        (part_after new h actions h' actions' db now.worth name t found (cells_of new rows) (cells_of old more) lines
        (subst (λ x. IsSublist (cells_of new rows) (x ++ cells_of old more)) (sym same_cells_now) part) among grows))
        (rows_wider new (TermOfRows old (t.rows ++ more)) (IsTermFor h' actions' (read.Table name)) source rows terms) where
          source : (u : Term) → TermOfRows old (t.rows ++ more) u → IsTermFor h' actions' (read.Table name) u
          source u b = elim (Contains-append_cases t.rows more b.row b.among) [
            | inl l ↦
                from_rows old t.rows (IsTermFor h' actions' (read.Table name)) (found_from old h actions h' actions' db d f.terms writable name t found) u
                (record { row = b.row; among = l; below = b.below })
            | inr r ↦ named u (record { row = b.row; among = r; below = b.below })
          ]

    -- after `delete` with a condition of the truth of the step's
    pub deleted_after : (c : Condition) → Follows h actions h' actions' (λ v w. Some (deleted v w name c)) [] → (cond : ℕ) → SameTruth (condition_at old cond) c
        → ((u : Term) → TermBelow old cond u → IsNoColumn u → IsTermFor h' actions' (read.Table name) u)
        → ((v : World) → SameSet (value_of_rows new v rows) (filter (λ x. not (holds v x (condition_at old cond))) (value_of_rows old v t.rows)))
        → IsSublist (cells_of new rows) (cells_of old t.rows)
        → RowsFrom new rows (λ u. TermOfRows old t.rows u ⊎ (TermBelow old cond u × IsNoColumn u)) → Denotes new h' actions' (with_table db (with_rows name t rows))
    deleted_after c f cond same named tuples part terms =
        with_other new h actions h' actions' db now f.terms writable name t rows
        (changed_worth new h actions h' actions' db now.worth name (λ v w ts. filter (λ x. not (holds v x c)) ts) f t rows found
        (λ v w e ts s. same_set_on _ _ _ (subst (λ xs. SameSet (value_of_rows new v rows) xs) (λ i. filter (λ x. not (same v x i)) (value_of_rows old v t.rows)) (tuples v))
        (same_set_filter (λ x. not (holds v x c)) (value_of_rows old v t.rows) ts (subst (λ xs. SameSet xs ts) (same_value_now v) s))) are
        (sublist_of_sublist _ _ _ (subst (IsSublist (cells_of new rows)) (sym same_cells_now) part)
        (sublist_of_sublist _ _ _ (found_pattern new h actions h' actions' db now.worth name t found) (f.patterns name))))
        (rows_wider new (λ u. TermOfRows old t.rows u ⊎ (TermBelow old cond u × IsNoColumn u)) (IsTermFor h' actions' (read.Table name)) source rows terms) where
          source : (u : Term) → TermOfRows old t.rows u ⊎ (TermBelow old cond u × IsNoColumn u) → IsTermFor h' actions' (read.Table name) u
          source u (inl b) = from_rows old t.rows (IsTermFor h' actions' (read.Table name)) (found_from old h actions h' actions' db d f.terms writable name t found) u b
          source u (inr b) = named u b.0 b.1

    -- after `update` with these sets, under a condition of the truth of the step's, whose terms stand below these places
    pub updated_after : (sets : Sets) (c : Condition) → Follows h actions h' actions' (λ v w. Some (set_where v w name sets c)) []
        → patterns h' actions' name ≡ with_updated sets (patterns h actions name) → (cond : ℕ) → SameTruth (condition_at old cond) c
        → (places : List ℕ) → ((u : Term) → BelowSome old places u → IsNoColumn u → IsTermFor h' actions' (read.Table name) u)
        → ((v : World) → SameSet (value_of_rows new v rows) (updated v (condition_at old cond) sets (value_of_rows old v t.rows)))
        → IsSublist (cells_of new rows) (with_updated sets (cells_of old t.rows))
        → RowsFrom new rows (λ u. TermOfRows old t.rows u ⊎ (BelowSome old places u × IsNoColumn u)) → Denotes new h' actions' (with_table db (with_rows name t rows))
    updated_after sets c f grows cond same places named tuples part terms =
        with_other new h actions h' actions' db now f.terms writable name t rows
        (changed_worth new h actions h' actions' db now.worth name (λ v w ts. updated v c sets ts) f t rows found
        (λ v w e ts s. same_set_on _ _ _
        (subst (λ xs. SameSet (value_of_rows new v rows) xs) (λ i. map (λ x. if same v x i then updated_tuple v sets x else x) (value_of_rows old v t.rows)) (tuples v))
        (same_set_map (λ x. if holds v x c then updated_tuple v sets x else x) (value_of_rows old v t.rows) ts (subst (λ xs. SameSet xs ts) (same_value_now v) s))) are
        (subst (IsSublist (cells_of new rows)) (sym grows)
        (sublist_of_sublist _ _ _ (subst (λ l. IsSublist (cells_of new rows) (with_updated sets l)) (sym same_cells_now) part)
        (sublist_updated sets (cells_of new t.rows) (patterns h actions name) (found_pattern new h actions h' actions' db now.worth name t found)))))
        (rows_wider new (λ u. TermOfRows old t.rows u ⊎ (BelowSome old places u × IsNoColumn u)) (IsTermFor h' actions' (read.Table name)) source rows terms) where
          source : (u : Term) → TermOfRows old t.rows u ⊎ (BelowSome old places u × IsNoColumn u) → IsTermFor h' actions' (read.Table name) u
          source u (inl b) = from_rows old t.rows (IsTermFor h' actions' (read.Table name)) (found_from old h actions h' actions' db d f.terms writable name t found) u b
          source u (inr b) = named u b.0 b.1

-- what is true of each item and of one more is true of each of both
all_true_push : {A : Type 0} (f : A → Bool) (xs : List A) (x : A) → IsTrue (list_all f xs) → IsTrue (f x) → IsTrue (list_all f (xs ++ x ∷ []))
all_true_push f [] x all one = true_both (f x) true one refl
all_true_push f (y ∷ xs) x all one = true_both (f y) (list_all f (xs ++ x ∷ [])) (true_left (f y) (list_all f xs) all) (all_true_push f xs x (true_right (f y) (list_all f xs) all) one)

-- a row of places has the cells of the row that it stands for
pub cells_listed : (words : List ℕ) (rs : List CRow) → map (λ (r : PlainRow). r.cells) (map (plain_crow words) rs) ≡ cells_of words rs
cells_listed words [] = refl
cells_listed words (r ∷ rs) = ap (λ rest. map (term_at words) r.cells ∷ rest) (cells_listed words rs)

-- sets whose terms are given by their places
abbrev pub sets_listed : List ℕ → List (ℕ × ℕ) → Sets
sets_listed words sets = map (λ s. (s.0, term_at words s.1)) sets

-- a term below the condition of an update or below a term of its sets is one of its terms
module _ (words : List ℕ) (formed : IsWellFormed words) (name : List ℕ) (sets : List (ℕ × ℕ)) (cond : ℕ) where
  pub update_named : All (λ s. IsTrue (is_place_of words class.Term s.1)) sets → IsTrue (is_place_of words class.Cond cond)
      → (u : Term) → BelowSome words (cond ∷ map (λ s. s.1) sets) u → Contains (change_terms (Update name (sets_listed words sets) (condition_at words cond))) u
  update_named placed place u b = elim (first_or_behind cond (map (λ s. s.1) sets) b.place b.among) [
    | inl e ↦
        Contains-append_right (map (λ s. s.1) (sets_listed words sets)) (condition_terms (condition_at words cond)) u
        (condition_named words formed cond u place (subst (λ p. TermBelow words p u) (sym e) b.below))
    | inr i ↦
        let s = unmapped_item (λ (x : ℕ × ℕ). x.1) sets b.place i in
        Contains-append_left (map (λ s. s.1) (sets_listed words sets)) (condition_terms (condition_at words cond)) u
        (subst (Contains (map (λ s. s.1) (sets_listed words sets))) (sym (term_alone words formed s.0.1 u (All-contains (λ x. IsTrue (is_place_of words class.Term x.1)) sets s.0 placed s.1) (subst (λ p. TermBelow words p u) (sym s.2) b.below)))
        (mapped (λ (x : ℕ × Term). x.1) (sets_listed words sets) (s.0.0, term_at words s.0.1) (mapped (λ x. (x.0, term_at words x.1)) sets s.0 s.1)))
  ]

-- a history with one change more, such as the one of a commit that is made of its list, change by change
module _ (old new : List ℕ) (longer : IsPrefix old new) (formed : IsWellFormed new) (h g : List PlainCommit) (db : List TableView) (d : Denotes old h [] db) where
  module _ (x : PlainChange) (is : changes_of g ≡ changes_of h ++ x ∷ []) where
    can_write : IsTrue (is_writable x) → IsTrue (list_all is_writable (changes_of g))
    can_write w = subst (λ xs. IsTrue (list_all is_writable xs)) (sym is) (all_true_push is_writable (changes_of h) x d.writable w)

    of_change : Contains (changes_of g) x
    of_change = subst (λ xs. Contains xs x) (sym is) (Contains-push (changes_of h) x)

  name_itself : (name : List ℕ) → IsTrue (same_text name name)
  name_itself name = (text_decides name name).1 refl

  -- a creation
  pub created_denotes : (name : List ℕ) (columns : List (List ℕ)) → changes_of g ≡ changes_of h ++ Create name columns ∷ [] → IsTrue (is_writable (Create name columns))
      → find_table db name ≡ None → Denotes new g [] (db ++ empty_table name columns ∷ [])
  created_denotes name columns is w none =
      created_after old new longer formed h [] g [] db d (can_write (Create name columns) is w) name columns (change_follows h g (Create name columns) is) none

  -- an insertion
  pub inserted_denotes : (name : List ℕ) (more : List CRow) → changes_of g ≡ changes_of h ++ Insert name (map (plain_crow old) more) ∷ []
      → IsTrue (is_writable (Insert name (map (plain_crow old) more)))
      → (t : TableView) → find_table db name ≡ Some t → All (IsRow old (length t.columns)) more → (rows : List CRow) → AreRows new (length t.columns) rows
      → ((v : World) → SameSet (value_of_rows new v rows) (value_of_rows old v t.rows ++ value_of_rows old v more))
      → IsSublist (cells_of new rows) (cells_of old t.rows ++ cells_of old more)
      → RowsFrom new rows (TermOfRows old (t.rows ++ more)) → Denotes new g [] (with_table db (with_rows name t rows))
  inserted_denotes name more is w t found each rows are =
      let x = Insert name (map (plain_crow old) more) in
      inserted_after old new longer formed h [] g [] db d (can_write x is w) name t found rows are
      (λ v w. shown_rows v (map (plain_crow old) more)) (change_follows h g x is) more (λ v w e. same_set_itself (value_of_rows old v more))
      (map (λ r. r.cells) (map (plain_crow old) more)) (subst (IsSublist (cells_of old more)) (sym (cells_listed old more)) (all_of (cells_of old more)))
      (lines_follow h g name (map (plain_crow old) more) is)
      (λ u b. by_change x (read.Table name) (of_change x is) (foremost (read.Table name) []) (name_itself name)
      (rows_named old (formed_before old new longer formed) (length t.columns) more u each b))

  -- a deletion
  pub deleted_denotes : (name : List ℕ) (cond : ℕ) → changes_of g ≡ changes_of h ++ Delete name (condition_at old cond) ∷ []
      → IsTrue (is_writable (Delete name (condition_at old cond))) → IsTrue (is_place_of old class.Cond cond)
      → (t : TableView) → find_table db name ≡ Some t → (rows : List CRow) → AreRows new (length t.columns) rows
      → ((v : World) → SameSet (value_of_rows new v rows) (filter (λ x. not (holds v x (condition_at old cond))) (value_of_rows old v t.rows)))
      → IsSublist (cells_of new rows) (cells_of old t.rows)
      → RowsFrom new rows (λ u. TermOfRows old t.rows u ⊎ (TermBelow old cond u × IsNoColumn u)) → Denotes new g [] (with_table db (with_rows name t rows))
  deleted_denotes name cond is w place t found rows are =
      let x = Delete name (condition_at old cond) in
      deleted_after old new longer formed h [] g [] db d (can_write x is w) name t found rows are (condition_at old cond) (change_follows h g x is) cond (λ v row. refl)
      (λ u b plain. by_change x (read.Table name) (of_change x is) (foremost (read.Table name) []) (name_itself name)
      (condition_named old (formed_before old new longer formed) cond u place b))

  -- an update
  pub updated_denotes : (name : List ℕ) (sets : List (ℕ × ℕ)) (cond : ℕ) → changes_of g ≡ changes_of h ++ Update name (sets_listed old sets) (condition_at old cond) ∷ []
      → IsTrue (is_writable (Update name (sets_listed old sets) (condition_at old cond)))
      → All (λ s. IsTrue (is_place_of old class.Term s.1)) sets → IsTrue (is_place_of old class.Cond cond)
      → (t : TableView) → find_table db name ≡ Some t → (rows : List CRow) → AreRows new (length t.columns) rows
      → ((v : World) → SameSet (value_of_rows new v rows) (updated v (condition_at old cond) (sets_listed old sets) (value_of_rows old v t.rows)))
      → IsSublist (cells_of new rows) (with_updated (sets_listed old sets) (cells_of old t.rows))
      → RowsFrom new rows (λ u. TermOfRows old t.rows u ⊎ (BelowSome old (cond ∷ map (λ s. s.1) sets) u × IsNoColumn u)) → Denotes new g [] (with_table db (with_rows name t rows))
  updated_denotes name sets cond is w placed place t found rows are =
      let ss = sets_listed old sets in
      let x = Update name ss (condition_at old cond) in
      updated_after old new longer formed h [] g [] db d (can_write x is w) name t found rows are ss (condition_at old cond) (change_follows h g x is)
      (sets_follow h g name ss (condition_at old cond) is) cond (λ v row. refl) (cond ∷ map (λ s. s.1) sets)
      (λ u b plain. by_change x (read.Table name) (of_change x is) (foremost (read.Table name) []) (name_itself name)
      (update_named old (formed_before old new longer formed) name sets cond placed place u b))

  -- an assertion
  pub asserted_denotes : (c : Condition) → changes_of g ≡ changes_of h ++ Assert c ∷ [] → IsTrue (is_writable (Assert c)) → Denotes new g [] db
  asserted_denotes c is w = asserted_after old new longer formed h [] g [] db d (can_write (Assert c) is w) (λ v w. holds_at v c) (change_follows h g (Assert c) is)
