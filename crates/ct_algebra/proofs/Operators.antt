-- What each operator makes of answers to the parts of a query answers the query.
use Rattle.std.proofs.Common.{◌≡◌, ℕ, ◌+◌, true, not, List, [], ◌∷◌, ◌++◌, length, map, Result, Ok, Err, Some, get_or, refl, ap, sym, subst, ◌∙◌, inl, inr}
use Rattle.std.{specs.Prelude.{◌⊎◌, IfOk, filter, slice_index_or}, specs.List.Contains, proofs.lemmas.List.{length-append, length-map}}
use Rattle.std.proofs.lemmas.List.Elements.{recursion_from_All, Contains-get_or, Contains-append_cases, Contains-append_left, Contains-append_right}
use Rattle.ct_word.{specs.declared.values.Value.Value, specs.declared.values.Term.Term, specs.Value.{World, cell_at}, specs.Sublist.IsSublist}
use Rattle.ct_word.specs.Condition.{Condition, True, holds}
use Rattle.ct_query.{specs.Plain.{PlainQuery, Table, Select, Project, Product, Union, Except, Intersect}, specs.Database.{has_tuple, SameSet}}
use Rattle.ct_query.{specs.Reads.tables_of, specs.Rows.{rows, joins}, specs.Patterns.{picked, query_pattern}, specs.Fits.{width, count_of}}
use Rattle.ct_query.{proofs.Sublists.{all_of, sublist-append, sublist_of_sublist, sublist_joins, sublist-map}, proofs.Sets.{same_set_on, same_set-append}}
use Rattle.ct_query.proofs.SameRows.{same_set_filter, same_set_without, same_set_within, same_set_map, same_set_joins}
use Rattle.ct_condition.specs.Terms.{IsNamed}
use Rattle.ct_operators.{specs.declared.table.CTable.CTable, specs.declared.error.TableError.TableError, specs.Tables.{cells_of, value_of_rows, AreRows}}
use Rattle.ct_operators.{specs.Terms.{TermOfRows, RowsFrom, IsNoColumn}, proofs.Reaching.{foremost, row_itself, rows_wider, from_rows}}
use Rattle.ct_table.{specs.Shared.view_of, specs.Denotes.{TableView, heading_of, find_table, value_of_tables}, proofs.Denoting.found_all}
use Rattle.ct_algebra.{specs.Operands.{AreTables, cells_in}, specs.Evaluates.Evaluates, specs.Terms.{IsNamedIn, TermOfQuery}}
use Rattle.ct_algebra.proofs.Found.{stands_for}

-- the terms of a query are those of one that reads what it reads, and names what it names
widened : (ws : List ℕ) (db : List TableView) (q whole : PlainQuery) (t : Term) → ((n : List ℕ) → Contains (tables_of q) n → Contains (tables_of whole) n)
    → (IsNamedIn q t → IsNamedIn whole t) → TermOfQuery ws db q t → TermOfQuery ws db whole t
widened ws db q whole t reads more (inl h) = inl (record { name = h.name; is_read = reads h.name h.is_read; table = h.table; found = h.found; below = h.below })
widened ws db q whole t reads more (inr h) = inr (more h.0, h.1)

-- a table answers the query that names it
pub table_answers : (ws : List ℕ) (db : List TableView) (name : List ℕ) (t : CTable) → AreTables ws db → find_table db name ≡ Some (view_of name t) → Evaluates ws ws db (Table name) t
table_answers ws db name t are found =
    let s = stands_for ws name (view_of name t) db found in
    record {
      width_is = sym (ap count_of s.columns);
      are = found_all (λ (x : TableView). AreRows ws (length x.columns) x.rows) name (view_of name t) db
          (recursion_from_All (λ (x : TableView). AreRows ws (length x.columns) x.rows) db are) found;
      tuples = λ v u. ap (λ l. has_tuple l u) (sym (s.tuples v));
      part = subst (IsSublist (cells_of ws t.rows)) (sym s.cells) (all_of (cells_of ws t.rows));
      from = rows_wider ws (TermOfRows ws t.rows) (TermOfQuery ws db (Table name))
          (λ x h. inl (record { name = name; is_read = foremost name []; table = view_of name t; found = found; below = h })) t.rows
          (λ k d lt. row_itself ws t.rows (get_or t.rows k d) (Contains-get_or t.rows k d lt));
    }

-- a table with the rows of an operator, and as many columns
module _ (old new : List ℕ) (db : List TableView) (q : PlainQuery) (n : ℕ) (wide : n ≡ width (map heading_of db) q) where
  made : (o : CTable) → length o.columns ≡ n → AreRows new n o.rows → ((v : World) → SameSet (value_of_rows new v o.rows) (rows v q (value_of_tables old v db)))
      → IsSublist (cells_of new o.rows) (query_pattern (cells_in old db) q) → RowsFrom new o.rows (TermOfQuery old db q) → Evaluates old new db q o
  made o e are tuples part from = record {
    width_is = e ∙ wide;
    are = subst (λ k. AreRows new k o.rows) (sym e) are;
    tuples = tuples;
    part = part;
    from = from;
  }

-- an operator of one part
module _ (old now new : List ℕ) (db : List TableView) (q : PlainQuery) (t : CTable) (s : Evaluates old now db q t) where
  abbrev its_tuples : World → List (List Value)
  its_tuples v = value_of_rows now v t.rows

  its_terms : (x : Term) → TermOfRows now t.rows x → TermOfQuery old db q x
  its_terms = from_rows now t.rows (TermOfQuery old db q) s.from

  pub select_answers : (c : Condition) (out : Result CTable TableError) → IfOk out (λ o. o.columns ≡ t.columns) → IfOk out (λ o. AreRows new (length t.columns) o.rows)
      → ((v : World) → IfOk out (λ o. SameSet (value_of_rows new v o.rows) (filter (λ u. holds v u c) (its_tuples v))))
      → IfOk out (λ o. IsSublist (cells_of new o.rows) (cells_of now t.rows))
      → IfOk out (λ o. RowsFrom new o.rows (λ x. TermOfRows now t.rows x ⊎ (IsNamed c x × IsNoColumn x))) → IfOk out (Evaluates old new db (Select c q))
  select_answers c (Err e) columns are tuples part from = tt
  select_answers c (Ok o) columns are tuples part from =
      made old new db (Select c q) (length t.columns) s.width_is o (ap (λ cs. length cs) columns) are
      (λ v. same_set_on _ _ _ (tuples v) (same_set_filter (λ u. holds v u c) (its_tuples v) (rows v q (value_of_tables old v db)) (s.tuples v)))
      (sublist_of_sublist _ _ _ part s.part)
      (rows_wider new (λ x. TermOfRows now t.rows x ⊎ (IsNamed c x × IsNoColumn x)) (TermOfQuery old db (Select c q)) (λ x h. elim h [
        | inl a ↦ widened old db q (Select c q) x (λ n i. i) (λ n. inr n) (its_terms x a)
        | inr b ↦ inr (inl b.0, b.1)
      ]) o.rows from)

  -- where there are no rows, none is left
  pub none_selected : (c : Condition) → t.rows ≡ [] → Evaluates old now db (Select c q) t
  none_selected c none =
      let alike : (v : World) → its_tuples v ≡ [] = λ v. ap (value_of_rows now v) none in
      record {
        width_is = s.width_is;
        are = s.are;
        tuples = λ v.
            same_set_on _ _ _ (λ u. ap (λ l. has_tuple l u) (alike v ∙ sym (ap (filter (λ u. holds v u c)) (alike v))))
            (same_set_filter (λ u. holds v u c) (its_tuples v) (rows v q (value_of_tables old v db)) (s.tuples v));
        part = s.part;
        from = rows_wider now (TermOfQuery old db q) (TermOfQuery old db (Select c q)) (λ x h. widened old db q (Select c q) x (λ n i. i) (λ n. inr n) h) t.rows s.from;
      }

  pub project_answers : (ks : List ℕ) (out : Result CTable TableError) → IfOk out (λ o. o.columns ≡ map (λ k. slice_index_or t.columns k []) ks)
      → IfOk out (λ o. AreRows new (length ks) o.rows)
      → ((v : World) → IfOk out (λ o. SameSet (value_of_rows new v o.rows) (map (λ u. map (cell_at u) ks) (its_tuples v))))
      → IfOk out (λ o. IsSublist (cells_of new o.rows) (map (picked ks) (cells_of now t.rows))) → IfOk out (λ o. RowsFrom new o.rows (TermOfRows now t.rows)) → IfOk out (Evaluates old new db (Project ks q))
  project_answers ks (Err e) columns are tuples part from = tt
  project_answers ks (Ok o) columns are tuples part from =
      made old new db (Project ks q) (length ks) refl o (ap (λ cs. length cs) columns ∙ length-map ks (λ k. slice_index_or t.columns k [])) are
      (λ v. same_set_on _ _ _ (tuples v) (same_set_map (λ u. map (cell_at u) ks) (its_tuples v) (rows v q (value_of_tables old v db)) (s.tuples v)))
      (sublist_of_sublist _ _ _ part (sublist-map (picked ks) (cells_of now t.rows) (query_pattern (cells_in old db) q) s.part))
      (rows_wider new (TermOfRows now t.rows) (TermOfQuery old db (Project ks q)) (λ x h. widened old db q (Project ks q) x (λ n i. i) (λ n. n) (its_terms x h)) o.rows from)

-- an operator of two parts
module _ (old now new : List ℕ) (db : List TableView) (a b : PlainQuery) (l r : CTable) (s : Evaluates old now db a l) (t : Evaluates old now db b r) where
  abbrev lefts : World → List (List Value)
  lefts v = value_of_rows now v l.rows

  abbrev rights : World → List (List Value)
  rights v = value_of_rows now v r.rows

  abbrev left_part : World → List (List Value)
  left_part v = rows v a (value_of_tables old v db)

  abbrev right_part : World → List (List Value)
  right_part v = rows v b (value_of_tables old v db)

  -- a term below the rows of both is one of the whole
  of_both : (whole : PlainQuery) → tables_of whole ≡ tables_of a ++ tables_of b → ((x : Term) → IsNamedIn a x ⊎ IsNamedIn b x → IsNamedIn whole x) → (x : Term) → TermOfRows now (l.rows ++ r.rows) x → TermOfQuery old db whole x
  of_both whole read named x h = elim (Contains-append_cases l.rows r.rows h.row h.among) [
    | inl i ↦ widened old db a whole x (λ n k. subst (λ ts. Contains ts n) (sym read) (Contains-append_left (tables_of a) (tables_of b) n k)) (λ n. named x (inl n)) (from_rows now l.rows (TermOfQuery old db a) s.from x (record { row = h.row; among = i; below = h.below }))
    | inr i ↦ widened old db b whole x (λ n k. subst (λ ts. Contains ts n) (sym read) (Contains-append_right (tables_of a) (tables_of b) n k)) (λ n. named x (inr n)) (from_rows now r.rows (TermOfQuery old db b) t.from x (record { row = h.row; among = i; below = h.below }))
  ]

  both_from : (whole : PlainQuery) → tables_of whole ≡ tables_of a ++ tables_of b → ((x : Term) → IsNamedIn a x ⊎ IsNamedIn b x → IsNamedIn whole x) → (o : CTable) → RowsFrom new o.rows (TermOfRows now (l.rows ++ r.rows))
      → RowsFrom new o.rows (TermOfQuery old db whole)
  both_from whole read named o = rows_wider new (TermOfRows now (l.rows ++ r.rows)) (TermOfQuery old db whole) (of_both whole read named) o.rows

  pub product_answers : (out : Result CTable TableError) → IfOk out (λ o. o.columns ≡ l.columns ++ r.columns)
      → IfOk out (λ o. AreRows new (length l.columns + length r.columns) o.rows)
      → ((v : World) → IfOk out (λ o. SameSet (value_of_rows new v o.rows) (joins (lefts v) (rights v))))
      → IfOk out (λ o. IsSublist (cells_of new o.rows) (joins (cells_of now l.rows) (cells_of now r.rows)))
      → IfOk out (λ o. RowsFrom new o.rows (TermOfRows now (l.rows ++ r.rows))) → IfOk out (Evaluates old new db (Product a b))
  product_answers (Err e) columns are tuples part from = tt
  product_answers (Ok o) columns are tuples part from =
      made old new db (Product a b) (length l.columns + length r.columns) (λ i. s.width_is i + t.width_is i) o (ap (λ cs. length cs) columns ∙ length-append l.columns r.columns) are
      (λ v. same_set_on _ _ _ (tuples v) (same_set_joins (lefts v) (left_part v) (rights v) (right_part v) (s.tuples v) (t.tuples v)))
      (sublist_of_sublist _ _ _ part
      (sublist_joins (cells_of now l.rows) (query_pattern (cells_in old db) a) (cells_of now r.rows) (query_pattern (cells_in old db) b) s.part t.part))
      (both_from (Product a b) refl (λ x n. n) o from)

  pub join_answers : (c : Condition) (out : Result CTable TableError) → IfOk out (λ o. length o.columns ≡ length l.columns + length r.columns)
      → IfOk out (λ o. AreRows new (length l.columns + length r.columns) o.rows)
      → ((v : World) → IfOk out (λ o. SameSet (value_of_rows new v o.rows) (filter (λ u. holds v u c) (joins (lefts v) (rights v)))))
      → IfOk out (λ o. IsSublist (cells_of new o.rows) (joins (cells_of now l.rows) (cells_of now r.rows)))
      → IfOk out (λ o. RowsFrom new o.rows (λ x. TermOfRows now (l.rows ++ r.rows) x ⊎ (IsNamed c x × IsNoColumn x))) → IfOk out (Evaluates old new db (Select c (Product a b)))
  join_answers c (Err e) wide are tuples part from = tt
  join_answers c (Ok o) wide are tuples part from =
      made old new db (Select c (Product a b)) (length l.columns + length r.columns) (λ i. s.width_is i + t.width_is i) o wide are
      (λ v. same_set_on _ _ _ (tuples v)
      (same_set_filter (λ u. holds v u c) (joins (lefts v) (rights v)) (joins (left_part v) (right_part v)) (same_set_joins (lefts v) (left_part v) (rights v) (right_part v) (s.tuples v) (t.tuples v))))
      (sublist_of_sublist _ _ _ part
      (sublist_joins (cells_of now l.rows) (query_pattern (cells_in old db) a) (cells_of now r.rows) (query_pattern (cells_in old db) b) s.part t.part))
      (rows_wider new (λ x. TermOfRows now (l.rows ++ r.rows) x ⊎ (IsNamed c x × IsNoColumn x)) (TermOfQuery old db (Select c (Product a b))) (λ x h. elim h [
        | inl i ↦ of_both (Select c (Product a b)) refl (λ x n. inr n) x i
        | inr n ↦ inr (inl n.0, n.1)
      ]) o.rows from)

  pub pick_answers : (ks : List ℕ) (c : Condition) (out : Result CTable TableError) → IfOk out (λ o. length o.columns ≡ length ks)
      → IfOk out (λ o. AreRows new (length ks) o.rows)
      → ((v : World) → IfOk out (λ o. SameSet (value_of_rows new v o.rows) (map (λ u. map (cell_at u) ks) (filter (λ u. holds v u c) (joins (lefts v) (rights v))))))
      → IfOk out (λ o. IsSublist (cells_of new o.rows) (map (picked ks) (joins (cells_of now l.rows) (cells_of now r.rows))))
      → IfOk out (λ o. RowsFrom new o.rows (λ x. TermOfRows now (l.rows ++ r.rows) x ⊎ (IsNamed c x × IsNoColumn x))) → IfOk out (Evaluates old new db (Project ks (Select c (Product a b))))
  pick_answers ks c (Err e) wide are tuples part from = tt
  pick_answers ks c (Ok o) wide are tuples part from =
      let whole = Project ks (Select c (Product a b)) in
      let pairs : World → List (List Value) = λ v. filter (λ u. holds v u c) (joins (lefts v) (rights v)) in
      let those : World → List (List Value) = λ v. filter (λ u. holds v u c) (joins (left_part v) (right_part v)) in
      made old new db whole (length ks) refl o wide are
      (λ v. same_set_on _ _ _ (tuples v) (same_set_map (λ u. map (cell_at u) ks) (pairs v) (those v)
      (same_set_filter (λ u. holds v u c) (joins (lefts v) (rights v)) (joins (left_part v) (right_part v)) (same_set_joins (lefts v) (left_part v) (rights v) (right_part v) (s.tuples v) (t.tuples v)))))
      (sublist_of_sublist _ _ _ part (sublist-map (picked ks) (joins (cells_of now l.rows) (cells_of now r.rows)) (joins (query_pattern (cells_in old db) a) (query_pattern (cells_in old db) b))
      (sublist_joins (cells_of now l.rows) (query_pattern (cells_in old db) a) (cells_of now r.rows) (query_pattern (cells_in old db) b) s.part t.part)))
      (rows_wider new (λ x. TermOfRows now (l.rows ++ r.rows) x ⊎ (IsNamed c x × IsNoColumn x)) (TermOfQuery old db whole) (λ x h. elim h [
        | inl i ↦ of_both whole refl (λ x n. inr n) x i
        | inr n ↦ inr (inl n.0, n.1)
      ]) o.rows from)

  pub union_answers : (out : Result CTable TableError) → IfOk out (λ o. o.columns ≡ l.columns) → IfOk out (λ o. AreRows new (length l.columns) o.rows)
      → ((v : World) → IfOk out (λ o. SameSet (value_of_rows new v o.rows) (lefts v ++ rights v)))
      → IfOk out (λ o. IsSublist (cells_of new o.rows) (cells_of now l.rows ++ cells_of now r.rows))
      → IfOk out (λ o. RowsFrom new o.rows (TermOfRows now (l.rows ++ r.rows))) → IfOk out (Evaluates old new db (Union a b))
  union_answers (Err e) columns are tuples part from = tt
  union_answers (Ok o) columns are tuples part from =
      made old new db (Union a b) (length l.columns) s.width_is o (ap (λ cs. length cs) columns) are
      (λ v. same_set_on _ _ _ (tuples v) (same_set-append (lefts v) (left_part v) (rights v) (right_part v) (s.tuples v) (t.tuples v)))
      (sublist_of_sublist _ _ _ part
      (sublist-append (cells_of now l.rows) (query_pattern (cells_in old db) a) (cells_of now r.rows) (query_pattern (cells_in old db) b) s.part t.part))
      (both_from (Union a b) refl (λ x n. n) o from)

  pub except_answers : (out : Result CTable TableError) → IfOk out (λ o. o.columns ≡ l.columns) → IfOk out (λ o. AreRows new (length l.columns) o.rows)
      → ((v : World) → IfOk out (λ o. SameSet (value_of_rows new v o.rows) (filter (λ u. not (has_tuple (rights v) u)) (lefts v))))
      → IfOk out (λ o. IsSublist (cells_of new o.rows) (cells_of now l.rows))
      → IfOk out (λ o. RowsFrom new o.rows (TermOfRows now (l.rows ++ r.rows))) → IfOk out (Evaluates old new db (Except a b))
  except_answers (Err e) columns are tuples part from = tt
  except_answers (Ok o) columns are tuples part from =
      made old new db (Except a b) (length l.columns) s.width_is o (ap (λ cs. length cs) columns) are
      (λ v. same_set_on _ _ _ (tuples v) (same_set_without (lefts v) (left_part v) (rights v) (right_part v) (s.tuples v) (t.tuples v)))
      (sublist_of_sublist _ _ _ part s.part)
      (both_from (Except a b) refl (λ x n. n) o from)

  pub intersect_answers : (out : Result CTable TableError) → IfOk out (λ o. o.columns ≡ l.columns) → IfOk out (λ o. AreRows new (length l.columns) o.rows)
      → ((v : World) → IfOk out (λ o. SameSet (value_of_rows new v o.rows) (filter (has_tuple (rights v)) (lefts v))))
      → IfOk out (λ o. IsSublist (cells_of new o.rows) (cells_of now l.rows))
      → IfOk out (λ o. RowsFrom new o.rows (TermOfRows now (l.rows ++ r.rows))) → IfOk out (Evaluates old new db (Intersect a b))
  intersect_answers (Err e) columns are tuples part from = tt
  intersect_answers (Ok o) columns are tuples part from =
      made old new db (Intersect a b) (length l.columns) s.width_is o (ap (λ cs. length cs) columns) are
      (λ v. same_set_on _ _ _ (tuples v) (same_set_within (lefts v) (left_part v) (rights v) (right_part v) (s.tuples v) (t.tuples v)))
      (sublist_of_sublist _ _ _ part s.part)
      (both_from (Intersect a b) refl (λ x n. n) o from)

-- the condition that always holds leaves all rows
all_kept : {A : Type 0} (xs : List A) → filter (λ x. true) xs ≡ xs
all_kept [] = refl
all_kept (x ∷ xs) = ap (λ l. x ∷ l) (all_kept xs)

-- so it may be left out below a projection
pub always_selected : (old new : List ℕ) (db : List TableView) (ks : List ℕ) (q : PlainQuery) (o : CTable) → Evaluates old new db (Project ks (Select True q)) o → Evaluates old new db (Project ks q) o
always_selected old new db ks q o s = record {
  width_is = s.width_is;
  are = s.are;
  tuples = λ v. subst (λ l. SameSet (value_of_rows new v o.rows) (map (λ u. map (cell_at u) ks) l)) (all_kept (rows v q (value_of_tables old v db))) (s.tuples v);
  part = s.part;
  from = rows_wider new (TermOfQuery old db (Project ks (Select True q))) (TermOfQuery old db (Project ks q)) (λ x h. elim h [
    | inl i ↦ inl (record { name = i.name; is_read = i.is_read; table = i.table; found = i.found; below = i.below })
    | inr n ↦ elim n.0 [
      | inl e ↦ absurd e
      | inr m ↦ inr (m, n.1)
    ]
  ]) o.rows s.from;
}
