-- The change of an action in a change list: it agrees with the action, fits the tables, can be written, and its terms are
-- those of the action or of what it reads.
use Rattle.std.{proofs.Common.{◌≡◌, ◌<◌, ℕ, true, ◌&&◌, List, [], ◌∷◌, length, map, None, refl, ap, sym, subst, ◌∙◌, arith, inl, inr}, specs.List.{Contains, list_all}}
use Rattle.std.{specs.Prelude.{All, IsSome, IsTrue, flat_map}, proofs.lemmas.Bool.and_from, proofs.lemmas.List.length-map}
use Rattle.std.proofs.lemmas.List.Elements.{All-weaker, All-contains, All-nil, All-cons, All-contains_itself, Contains-push, Contains-append_left, Contains-append_right, Contains-append_cases}
use Rattle.ct_word.{specs.declared.values.CRow.CRow, specs.declared.values.Term.Term, specs.Reading.{condition_at, plain_crow, term_at}}
use Rattle.ct_word.{specs.Change.{PlainRow, PlainChange, Create, Insert, Delete, Update, Assert, PlainCommit}, specs.Sublist.IsSublist, specs.WellFormed.{IsWellFormed, is_place_of}}
use Rattle.ct_word.{specs.Stands.TermBelow, specs.Writable.{is_name, is_writable_term, is_writable_condition, is_writable_row, is_writable}, proofs.Items.unmapped_item}
use Rattle.ct_query.{specs.Agrees.AgreesWith, specs.Patterns.pattern, specs.Plain.{PlainQuery, PlainAction}, specs.Schema.schema, specs.Worlds.changes_of}
use Rattle.ct_query.specs.Fits.{columns_in, count_of, width, IsColumnBelow, AreColumnsBelow, AreSets, FitsCell, FitsRow, FitsAction, FitsChange}
use Rattle.ct_query.{specs.Terms.{condition_terms, action_terms, change_terms}, specs.declared.schema.Heading.Heading}
use Rattle.ct_history.{specs.Encodes.{AreHanded, IsChangeFor, HasTermsOf, asserted_by}, specs.Rows.IsRowOf}
use Rattle.ct_keeper.{specs.Doing.{HasTermsFor, written_by}, proofs.Finding.column_in}
use Rattle.ct_resolve.specs.Writing.{IsNamed, WritesTerm, WritesAction}
use Rattle.ct_table.{specs.Denotes.by_action, proofs.Changing.cells_listed}
use Rattle.ct_operators.{specs.Tables.IsRow, specs.Terms.TermOfRow, proofs.Naming.{mapped, given, row_terms, row_reached, condition_reached}}
use Rattle.ct_operators.proofs.Reaching.{from_rows, none_of_some}
use Rattle.ct_statement.{specs.Asking.{terms_of_query, AnswersQuery}, specs.Sources.{AreAsserted, AreTakenFor}, proofs.Members.{unflat, all_pass}}
use Rattle.ct_statement.{proofs.EachTerm.{columns_of, writes_of, row_fits, row_writes, plain_below}, proofs.TermSources.{source_writes, asked_source}}
use Rattle.ct_word.specs.declared.kinds.Class.TheVariants as class
use Rattle.ct_word.specs.declared.values.Term.TheVariants as term
use Rattle.ct_query.specs.Plain as plain

module _ (words : List ℕ) (global : ℕ) (h : List PlainCommit) (before : List PlainAction) where
  -- the row of an assertion has its place
  one_placed : (a : PlainAction) (rs : List CRow) → AreAsserted words h before a rs → All (IsRowOf words) rs
  one_placed a rs t =
      subst (All (IsRowOf words)) (sym t.one)
      (All-cons (IsRowOf words) (record { cells = []; cond = t.cond }) [] (record { terms = All-nil (λ p. IsTrue (is_place_of words class.Term p)); condition = t.place }) (All-nil (IsRowOf words)))

  -- rows that an action takes from its query have their places
  pub taken_placed : (a : PlainAction) (rs : List CRow) → AreTakenFor words global h before a rs → All (IsRowOf words) rs
  taken_placed (plain.InsertQuery name q) rs t =
      let n = width (schema h before).tables q in
      All-weaker (IsRow words n) (IsRowOf words) (λ r is. record { terms = is.terms; condition = is.condition }) rs t.are.each
  taken_placed (plain.AssertQuery wanted q) rs t = one_placed (plain.AssertQuery wanted q) rs t
  taken_placed (plain.AssertKey name columns) rs t = one_placed (plain.AssertKey name columns) rs t
  taken_placed _ rs t = subst (All (IsRowOf words)) (sym t) (All-nil (IsRowOf words))

  -- and an assertion over a query or a key has its row
  pub taken_handed : (a : PlainAction) (rs : List CRow) → AreTakenFor words global h before a rs → AreHanded a rs
  taken_handed (plain.AssertQuery wanted q) rs t = subst (λ (l : List CRow). 0 < length l) (sym t.one) (omega arith)
  taken_handed (plain.AssertKey name columns) rs t = subst (λ (l : List CRow). 0 < length l) (sym t.one) (omega arith)
  taken_handed _ rs t = tt

module _ (words : List ℕ) (formed : IsWellFormed words) (global : ℕ) (h : List PlainCommit) (before : List PlainAction) where
  -- an assertion over a query or a key is recorded as the one of the condition that was made
  module _ (a : PlainAction) (rs : List CRow) (t : AreAsserted words h before a rs) (x : PlainChange) (is : x ≡ asserted_by (map (plain_crow words) rs)) where
    one_asserted : x ≡ Assert (condition_at words t.cond)
    one_asserted = is ∙ ap (λ l. asserted_by (map (plain_crow words) l)) t.one

    one_sources : HasTermsFor h before a x
    one_sources = subst (HasTermsFor h before a) (sym one_asserted) (λ u none i. t.from u (condition_reached words formed t.cond u t.place i))

    one_fits : (s : List Heading) → FitsChange s x
    one_fits s =
        subst (FitsChange s) (sym one_asserted)
        (columns_of 0 (condition_at words t.cond) (λ u i. plain_below 0 u (λ k e. t.plain k (subst (TermBelow words t.cond) e (condition_reached words formed t.cond u t.place i)))))

  -- the change agrees with its action
  pub agrees_then : (a : PlainAction) (rs : List CRow) (x : PlainChange) → IsChangeFor a (map (plain_crow words) rs) x → AreTakenFor words global h before a rs → AgreesWith h before a x
  agrees_then (plain.InsertQuery name q) rs x is t =
      subst (AgreesWith h before (plain.InsertQuery name q)) (sym is) (refl, subst (λ cs. IsSublist cs (pattern h before q)) (sym (cells_listed words rs)) t.part, t.tuples)
  agrees_then (plain.Create name columns) rs (Create name' columns') is t = is
  agrees_then (plain.InsertRows name lists c) rs (Insert name' rs') is t = is
  agrees_then (plain.Delete name c) rs (Delete name' c') is t = is
  agrees_then (plain.Update name sets c) rs (Update name' sets' c') is t = is
  agrees_then (plain.Assert c) rs (Assert c') is t = is
  agrees_then (plain.AssertQuery wanted q) rs x is t =
      subst (AgreesWith h before (plain.AssertQuery wanted q)) (sym (one_asserted (plain.AssertQuery wanted q) rs t x is)) t.holds
  agrees_then (plain.AssertKey name columns) rs x is t =
      subst (AgreesWith h before (plain.AssertKey name columns)) (sym (one_asserted (plain.AssertKey name columns) rs t x is)) t.holds
  agrees_then _ rs _ is t = absurd is

  -- a term of the rows that an insertion takes stands below one of them, and is asked about
  module _ (name : List ℕ) (q : PlainQuery) (n : ℕ) (rs : List CRow) (t : AnswersQuery words global h before q n rs) where
    its_row : (r : CRow) → Contains rs r → IsRow words n r
    its_row r i = All-contains (IsRow words n) rs r t.are.each i

    reached : (r : CRow) (u : Term) → Contains rs r → Contains (row_terms (plain_crow words r)) u → TermOfRow words r u
    reached r u i j = row_reached words formed r u ((its_row r i).terms, (its_row r i).condition) j

    taken_asked : (u : Term) → Contains (change_terms (Insert name (map (plain_crow words) rs))) u → Contains (terms_of_query h before q) u
    taken_asked u i =
        let shown = unflat row_terms (map (plain_crow words) rs) u i in
        let r = unmapped_item (plain_crow words) rs shown.0 shown.1 in
        from_rows words rs (Contains (terms_of_query h before q)) t.from u
        (record { row = r.0; among = r.1; below = reached r.0 u r.1 (subst (λ x. Contains (row_terms x) u) (sym r.2) shown.2) })

    taken_fit : (m : ℕ) → n ≡ m → All (FitsRow m) (map (plain_crow words) rs)
    taken_fit m wide = All-weaker (Contains (map (plain_crow words) rs)) (FitsRow m) (λ x i.
        let r = unmapped_item (plain_crow words) rs x i in
        let is = its_row r.0 r.1 in
        subst (FitsRow m) r.2 (row_fits m (plain_crow words r.0) (length-map r.0.cells (term_at words) ∙ is.width_is ∙ wide) (λ u j.
        plain_below 0 u (λ k e. none_of_some words (r.0.cond ∷ r.0.cells) is.plain k (subst (TermOfRow words r.0) e (reached r.0 u r.1 j))))))
        (map (plain_crow words) rs) (All-contains_itself (map (plain_crow words) rs))

  -- the terms of the change come with the action, or from what it read
  pub has_sources : (a : PlainAction) (rs : List CRow) (x : PlainChange) → IsChangeFor a (map (plain_crow words) rs) x → HasTermsOf a (map (plain_crow words) rs) x
      → AreTakenFor words global h before a rs → HasTermsFor h before a x
  has_sources (plain.InsertQuery name q) rs x is from t = λ u none i.
      asked_source h before (plain.InsertQuery name q) q refl refl (written_by x) u (taken_asked name q (width (schema h before).tables q) rs t u (from u i))
  has_sources (plain.AssertQuery wanted q) rs x is from t = one_sources (plain.AssertQuery wanted q) rs t x is
  has_sources (plain.AssertKey name columns) rs x is from t = one_sources (plain.AssertKey name columns) rs t x is
  has_sources a rs x is from t = λ u none i. by_action a (Contains-push before a) (from u i)

  -- the change fits where its action does
  pub change_fits : (a : PlainAction) (rs : List CRow) (x : PlainChange) → FitsAction (schema h before).tables a → IsChangeFor a (map (plain_crow words) rs) x
      → HasTermsOf a (map (plain_crow words) rs) x → AreTakenFor words global h before a rs → FitsChange (schema h before).tables x
  change_fits (plain.InsertQuery name q) rs x f is from t =
      let s = (schema h before).tables in
      subst (FitsChange s) (sym is) (f.0, taken_fit name q (width s q) rs t (width s (plain.Table name)) f.1)
  change_fits (plain.Create name columns) rs (Create name' columns') f is from t = subst (λ n. columns_in (schema h before).tables n ≡ None) (sym is.0) f
  change_fits (plain.InsertRows name lists c) rs (Insert name' rs') f is from t =
      subst (λ n. IsSome (columns_in (schema h before).tables n) × All (FitsRow (count_of (columns_in (schema h before).tables n))) rs') (sym is.0) (f.0, rows_fit) where
        wide : ℕ
        wide = width (schema h before).tables (plain.Table name)

        plain_term : (u : Term) → Contains (action_terms (plain.InsertRows name lists c)) u → IsColumnBelow 0 u
        plain_term u i = elim (Contains-append_cases (flat_map (λ r. r) lists) (condition_terms c) u i) [
          | inl l ↦ let r = unflat (λ r. r) lists u l in (All-contains FitsCell r.0 u (All-contains (All FitsCell) lists r.0 f.2 r.1) r.2).0
          | inr p ↦ column_in 0 c u f.3.columns p
        ]

        rows_fit : All (FitsRow wide) rs'
        rows_fit = All-weaker (Contains rs') (FitsRow wide) (λ r i.
            row_fits wide r (All-contains (λ l. length l ≡ wide) lists r.cells f.1 (subst (λ cs. Contains cs r.cells) is.1 (mapped (λ (x : PlainRow). x.cells) rs' r i)))
            (λ u j. plain_term u (from u (given row_terms rs' r u i j)))) rs' (All-contains_itself rs')
  change_fits (plain.Delete name p) rs (Delete name' c) f is from t =
      let s = (schema h before).tables in
      let n = width s (plain.Table name) in
      subst (λ x. IsSome (columns_in s x) × AreColumnsBelow (count_of (columns_in s x)) c) (sym is.0) (f.0, columns_of n c (λ u i. column_in n p u f.1.columns (from u i)))
  change_fits (plain.Update name sets p) rs (Update name' sets' c) f is from t =
      subst (λ x. IsSome (columns_in s x) × AreSets (count_of (columns_in s x)) sets' × AreColumnsBelow (count_of (columns_in s x)) c) (sym is.0)
      (f.0, subst (AreSets n) (sym is.1) f.1, columns_of n c (λ u i. below u (from u (Contains-append_right (map (λ b. b.1) sets') (condition_terms c) u i)))) where
        s : List Heading
        s = (schema h before).tables

        n : ℕ
        n = width s (plain.Table name)

        below : (u : Term) → Contains (action_terms (plain.Update name sets p)) u → IsColumnBelow n u
        below u i = elim (Contains-append_cases (map (λ b. b.1) sets) (condition_terms p) u i) [
          | inl l ↦ let b = unmapped_item (λ (b : ℕ × Term). b.1) sets u l in subst (IsColumnBelow n) b.2 (All-contains (λ (b : ℕ × Term). IsColumnBelow n b.1) sets b.0 f.1.columns b.1)
          | inr r ↦ column_in n p u f.3.columns r
        ]
  change_fits (plain.AssertQuery wanted q) rs x f is from t = one_fits (plain.AssertQuery wanted q) rs t x is (schema h before).tables
  change_fits (plain.AssertKey name columns) rs x f is from t = one_fits (plain.AssertKey name columns) rs t x is (schema h before).tables
  change_fits (plain.Assert p) rs (Assert c) f is from t = columns_of 0 c (λ u i. column_in 0 p u f.columns (from u i))
  change_fits _ rs _ f is from t = absurd is

-- the change can be written, where the history, the actions before and the action can
module _ (h : List PlainCommit) (before : List PlainAction) (can : IsTrue (list_all is_writable (changes_of h))) (earlier : All WritesAction before) where
  each_written : (a : PlainAction) (x : PlainChange) → WritesAction a → HasTermsFor h before a x → (u : Term) → Contains (change_terms x) u → WritesTerm u
  each_written a x own from (term.Column k) i = refl
  each_written a x own from u i = source_writes h before a (written_by x) u can earlier own (from u (λ k e. cc) i)

  rows_written : (a : PlainAction) (name : List ℕ) (rs : List PlainRow) → WritesAction a → HasTermsFor h before a (Insert name rs) → IsNamed name → is_writable (Insert name rs) ≡ true
  rows_written a name rs own from named =
      and_from (is_name name) (list_all is_writable_row rs) named
      (all_pass is_writable_row rs (λ r i. row_writes r (λ u j. each_written a (Insert name rs) own from u (given row_terms rs r u i j))))

  pub change_written : (a : PlainAction) (x : PlainChange) → WritesAction a → AgreesWith h before a x → HasTermsFor h before a x → IsTrue (is_writable x)
  change_written (plain.Create name columns) (Create name' columns') own is from =
      and_from (is_name name') (list_all is_name columns') (subst IsNamed (sym is.0) own.0)
      (subst (λ cs. list_all is_name cs ≡ true) (sym is.1) (all_pass is_name columns (λ c i. All-contains IsNamed columns c own.1 i)))
  change_written (plain.InsertRows name lists c) (Insert name' rs) own is from = rows_written (plain.InsertRows name lists c) name' rs own from (subst IsNamed (sym is.0) own.0)
  change_written (plain.InsertQuery name q) (Insert name' rs) own is from = rows_written (plain.InsertQuery name q) name' rs own from (subst IsNamed (sym is.0) own.0)
  change_written (plain.Delete name p) (Delete name' c) own is from =
      and_from (is_name name') (is_writable_condition c) (subst IsNamed (sym is.0) own.0) (writes_of c (each_written (plain.Delete name p) (Delete name' c) own from))
  change_written (plain.Update name sets p) (Update name' sets' c) own is from =
      let each = each_written (plain.Update name sets p) (Update name' sets' c) own from in
      and_from (is_name name' && list_all (λ (b : ℕ × Term). is_writable_term b.1) sets') (is_writable_condition c)
      (and_from (is_name name') (list_all (λ (b : ℕ × Term). is_writable_term b.1) sets') (subst IsNamed (sym is.0) own.0)
      (all_pass (λ (b : ℕ × Term). is_writable_term b.1) sets'
      (λ b i. each b.1 (Contains-append_left (map (λ b. b.1) sets') (condition_terms c) b.1 (mapped (λ (b : ℕ × Term). b.1) sets' b i)))))
      (writes_of c (λ u i. each u (Contains-append_right (map (λ b. b.1) sets') (condition_terms c) u i)))
  change_written (plain.Assert p) (Assert c) own is from = writes_of c (each_written (plain.Assert p) (Assert c) own from)
  change_written (plain.AssertQuery wanted q) (Assert c) own is from = writes_of c (each_written (plain.AssertQuery wanted q) (Assert c) own from)
  change_written (plain.AssertKey name columns) (Assert c) own is from = writes_of c (each_written (plain.AssertKey name columns) (Assert c) own from)
  change_written _ _ own is from = absurd is
