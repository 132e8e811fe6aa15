-- The table that a change names, and what the change's fitting says of its rows and its condition.
use Rattle.std.proofs.Common.{◌≡◌, ℕ, ◌<◌, Bool, true, false, List, [], ◌∷◌, ◌++◌, length, map, refl, ap, sym, subst, ◌∙◌, arith, inl, inr}
use Rattle.std.{specs.Prelude.{All, Option, Some, None, IsSome, IsTrue, option_map, if◌then◌else◌}, specs.List.Contains, proofs.lemmas.Bool.false≢true}
use Rattle.std.{proofs.lemmas.List.length-map, proofs.lemmas.List.Elements.{All-nil, All-cons, All-head, All-tail, All-contains, recursion_from_All, Contains-append_cases}}
use Rattle.ct_word.{specs.declared.values.CRow.CRow, specs.declared.values.Term.Term, specs.Value.same_text, specs.Reading.{condition_at, term_at, plain_crow}}
use Rattle.ct_word.{specs.Condition.{Condition, Conditions, True, False, Same, Not, And, Or, none, also}, specs.Stands.{TermBelow, HasNoColumn}, proofs.Items.{mapped_item, unmapped_item}}
use Rattle.ct_word.specs.WellFormed.{IsWellFormed, is_place_of}
use Rattle.ct_query.specs.Fits.{columns_in, count_of, width, IsColumnBelow, AreColumnsBelow, AreAllColumnsBelow, AreSets, FitsRow}
use Rattle.ct_query.specs.Terms.{condition_terms, all_terms}
use Rattle.ct_condition.specs.Terms.{BelowSome}
use Rattle.ct_history.{specs.Rows.IsRowOf, specs.Written.plain_set}
use Rattle.ct_table.{specs.Denotes.{TableView, heading_of, find_table, with_table}, specs.Pending.put_into}
use Rattle.ct_table.{specs.Growing.rows_after, proofs.Denoting.found_all}
use Rattle.ct_operators.{specs.Tables.{IsRow, AreRows}, proofs.Naming.condition_named, proofs.Reaching.{first_or_behind, term_alone}}
use Rattle.ct_operators.specs.declared.table.CTable.{CTable}
use Rattle.ct_update.{specs.declared.revising.Revision.Revision, specs.Revising.{FitsRevision, revised}}
use Rattle.ct_keeper.{specs.declared.effects.Effect.Effect, specs.Effects.{DoesChange, new_table, rows_of_table}}
use Rattle.ct_word.specs.declared.kinds.Class.TheVariants as class
use Rattle.ct_word.specs.declared.values.Term.TheVariants as term
use Rattle.ct_query.specs.Plain as plain
use Rattle.ct_table.specs.declared.pending.Growth.TheVariants as growth
use Rattle.ct_update.specs.declared.revising.Revision.TheVariants as revision
use Rattle.ct_history.specs.declared.written.Written.TheVariants as written
use Rattle.ct_keeper.specs.declared.effects.Effect.TheVariants as effect

-- the columns that a schema has for a name are those of the name's table
columns_found : (db : List TableView) (name : List ℕ) → columns_in (map heading_of db) name ≡ option_map (λ t. t.columns) (find_table db name)
columns_found [] name = refl
columns_found (t ∷ db) name = by_test (same_text t.name name) (columns_found db name) where
  by_test : (b : Bool) → columns_in (map heading_of db) name ≡ option_map (λ u. u.columns) (find_table db name)
      → (if b then Some t.columns else columns_in (map heading_of db) name) ≡ option_map (λ u. u.columns) (if b then Some t else find_table db name)
  by_test true rest = refl
  by_test false rest = rest

none_found : (o : Option TableView) → option_map (λ t. t.columns) o ≡ None → o ≡ None
none_found None e = refl
none_found (Some t) e = cc

-- a name without columns is no table's
pub not_there : (db : List TableView) (name : List ℕ) → columns_in (map heading_of db) name ≡ None → find_table db name ≡ None
not_there db name absent = none_found (find_table db name) (sym (columns_found db name) ∙ absent)

-- a name with columns is a table's
pub not_missing : (db : List TableView) (name : List ℕ) → IsSome (columns_in (map heading_of db) name) → find_table db name ≡ None → ⊥
not_missing db name some absent = false≢true (subst IsSome (columns_found db name ∙ ap (option_map (λ (t : TableView). t.columns)) absent) some)

-- a table of this name is as wide as the schema says
pub width_found : (db : List TableView) (name : List ℕ) (t : TableView) → find_table db name ≡ Some t → width (map heading_of db) (plain.Table name) ≡ length t.columns
width_found db name t found = ap count_of (columns_found db name ∙ ap (option_map (λ (u : TableView). u.columns)) found)

-- the rows of the table that is found
pub rows_of_found : (words : List ℕ) (db : List TableView) (name : List ℕ) (t : TableView) → All (λ u. AreRows words (length u.columns) u.rows) db → find_table db name ≡ Some t
    → AreRows words (length t.columns) t.rows
rows_of_found words db name t all found =
    found_all (λ u. AreRows words (length u.columns) u.rows) name t db (recursion_from_All (λ u. AreRows words (length u.columns) u.rows) db all) found

-- a table whose name is new comes last
pub with_new : (db : List TableView) (new : TableView) → find_table db new.name ≡ None → with_table db new ≡ db ++ new ∷ []
with_new [] new e = refl
with_new (t ∷ db) new e = by_test (same_text t.name new.name) refl (with_new db new) where
  by_test : (b : Bool) → same_text t.name new.name ≡ b → (find_table db new.name ≡ None → with_table db new ≡ db ++ new ∷ []) → with_table (t ∷ db) new ≡ t ∷ (db ++ new ∷ [])
  by_test true p rest = let bad : Some t ≡ None = sym (ap (λ b. if b then Some t else find_table db new.name) p) ∙ e in cc
  by_test false p rest = ap (λ b. if b then new ∷ db else t ∷ with_table db new) p ∙ ap (λ l. t ∷ l) (rest (sym (ap (λ b. if b then Some t else find_table db new.name) p) ∙ e))

-- the tables in which the one that is found gets conditions at cells
pub rows_put : (db : List TableView) (name : List ℕ) (t : TableView) (puts : List (List ℕ × ℕ)) → find_table db name ≡ Some t → t.name ≡ name
    → put_into db name puts (find_table db name) ≡ with_table db (rows_of_table t (rows_after t.rows puts))
rows_put db name t puts found named = ap (put_into db name puts) found ∙ (λ i. with_table db (record { name = sym named i; columns = t.columns; rows = rows_after t.rows puts }))

-- a column among the terms of a condition is below the row's end, where its columns are
mutual
  pub column_in : (n : ℕ) (c : Condition) (t : Term) → AreColumnsBelow n c → Contains (condition_terms c) t → IsColumnBelow n t
  column_in n True t below i = absurd (omega (arith, i.1))
  column_in n False t below i = absurd (omega (arith, i.1))
  column_in n (Same s u) t below i = elim (first_or_behind s (u ∷ []) t i) [
    | inl e ↦ subst (IsColumnBelow n) e below.0
    | inr r ↦ elim (first_or_behind u [] t r) [ inl e ↦ subst (IsColumnBelow n) e below.1 | inr z ↦ absurd (omega (arith, z.1)) ]
  ]
  column_in n (Not c) t below i = column_in n c t below i
  column_in n (And cs) t below i = column_in_all n cs t below i
  column_in n (Or cs) t below i = column_in_all n cs t below i

  column_in_all : (n : ℕ) (cs : Conditions) (t : Term) → AreAllColumnsBelow n cs → Contains (all_terms cs) t → IsColumnBelow n t
  column_in_all n none t below i = absurd (omega (arith, i.1))
  column_in_all n (also c cs) t below i = elim (Contains-append_cases (condition_terms c) (all_terms cs) t i) [
    | inl l ↦ column_in n c t below.0 l
    | inr r ↦ column_in_all n cs t below.1 r
  ]

module _ (words : List ℕ) (formed : IsWellFormed words) where
  -- so is one that stands below the condition at a place
  pub column_below : (n p : ℕ) → IsTrue (is_place_of words class.Cond p) → AreColumnsBelow n (condition_at words p) → (k : ℕ) → TermBelow words p (term.Column k) → k < n
  column_below n p place below k h = column_in n (condition_at words p) (term.Column k) below (condition_named words formed p (term.Column k) place h)

  -- no column stands below a condition without columns
  pub none_below : (p : ℕ) → IsTrue (is_place_of words class.Cond p) → AreColumnsBelow 0 (condition_at words p) → HasNoColumn words p
  none_below p place below k h = let lt : k < 0 = column_below 0 p place below k h in omega (arith, lt)

  -- nor below a cell that is no column
  none_at_cell : (p : ℕ) → IsTrue (is_place_of words class.Term p) → IsColumnBelow 0 (term_at words p) → HasNoColumn words p
  none_at_cell p place fits k h =
      let lt : k < 0 = subst (IsColumnBelow 0) (sym (term_alone words formed p (term.Column k) place h)) fits in
      omega (arith, lt)

  none_at_cells : (ps : List ℕ) → All (λ p. IsTrue (is_place_of words class.Term p)) ps → All (IsColumnBelow 0) (map (term_at words) ps) → All (HasNoColumn words) ps
  none_at_cells [] places fits = All-nil (HasNoColumn words)
  none_at_cells (p ∷ ps) places fits =
      All-cons (HasNoColumn words) p ps
      (none_at_cell p (All-head (λ q. IsTrue (is_place_of words class.Term q)) p ps places) (All-head (IsColumnBelow 0) (term_at words p) (map (term_at words) ps) fits))
      (none_at_cells ps (All-tail (λ q. IsTrue (is_place_of words class.Term q)) p ps places) (All-tail (IsColumnBelow 0) (term_at words p) (map (term_at words) ps) fits))

  row_fits : (n : ℕ) (r : CRow) → IsRowOf words r → FitsRow n (plain_crow words r) → IsRow words n r
  row_fits n r is fits = record {
    terms = is.terms;
    condition = is.condition;
    width_is = sym (length-map r.cells (term_at words)) ∙ fits.cells;
    plain = All-cons (HasNoColumn words) r.cond r.cells (none_below r.cond is.condition fits.condition) (none_at_cells r.cells is.terms fits.plain);
  }

  -- rows of places that fit a table of so many columns are rows of it
  pub rows_fit : (n : ℕ) (rs : List CRow) → All (IsRowOf words) rs → All (FitsRow n) (map (plain_crow words) rs) → All (IsRow words n) rs
  rows_fit n [] all fits = All-nil (IsRow words n)
  rows_fit n (r ∷ rs) all fits =
      All-cons (IsRow words n) r rs
      (row_fits n r (All-head (IsRowOf words) r rs all) (All-head (FitsRow n) (plain_crow words r) (map (plain_crow words) rs) fits))
      (rows_fit n rs (All-tail (IsRowOf words) r rs all) (All-tail (FitsRow n) (plain_crow words r) (map (plain_crow words) rs) fits))

  -- sets of places that are made on rows of so many cells have their positions among these
  pub positions_below : (n : ℕ) (sets : List (ℕ × ℕ)) → All (λ (s : ℕ × Term). s.0 < n) (map (plain_set words) sets) → All (λ (s : ℕ × ℕ). s.0 < n) sets
  positions_below n [] all = All-nil (λ (s : ℕ × ℕ). s.0 < n)
  positions_below n (s ∷ sets) all =
      All-cons (λ (u : ℕ × ℕ). u.0 < n) s sets (All-head (λ (u : ℕ × Term). u.0 < n) (plain_set words s) (map (plain_set words) sets) all)
      (positions_below n sets (All-tail (λ (u : ℕ × Term). u.0 < n) (plain_set words s) (map (plain_set words) sets) all))

  -- a column that an update of places names is below the row's end
  pub column_named : (n : ℕ) (sets : List (ℕ × ℕ)) (cond : ℕ) → All (λ (s : ℕ × ℕ). IsTrue (is_place_of words class.Term s.1)) sets → IsTrue (is_place_of words class.Cond cond)
      → AreSets n (map (plain_set words) sets) → AreColumnsBelow n (condition_at words cond) → (k : ℕ) → BelowSome words (cond ∷ map (λ s. s.1) sets) (term.Column k) → k < n
  column_named n sets cond terms place are below k b = elim (first_or_behind cond (map (λ s. s.1) sets) b.place b.among) [
    | inl e ↦ column_below n cond place below k (subst (λ p. TermBelow words p (term.Column k)) (sym e) b.below)
    | inr i ↦
        let set = unmapped_item (λ (s : ℕ × ℕ). s.1) sets b.place i in
        let placed = All-contains (λ (s : ℕ × ℕ). IsTrue (is_place_of words class.Term s.1)) sets set.0 terms set.1 in
        let is : term.Column k ≡ term_at words set.0.1 = term_alone words formed set.0.1 (term.Column k) placed (subst (λ p. TermBelow words p (term.Column k)) (sym set.2) b.below) in
        subst (IsColumnBelow n) (sym is)
        (All-contains (λ (s : ℕ × Term). IsColumnBelow n s.1) (map (plain_set words) sets) (plain_set words set.0) are.columns (mapped_item (plain_set words) sets set.0 set.1))
  ]

-- a table that comes last is what a creation does
pub does_create : (old new : List ℕ) (db : List TableView) (global : ℕ) (name : List ℕ) (columns : List (List ℕ)) (made : Effect)
    → made ≡ effect.Grows (growth.Table name (record { columns = columns; rows = [] })) → columns_in (map heading_of db) name ≡ None → DoesChange old new db global (written.Create name columns) made
does_create old new db global name columns made is absent =
    let missing = not_there db name absent in
    subst (DoesChange old new db global (written.Create name columns)) (sym is) (missing, with_new db (new_table name columns) missing)

-- a revision leaves the columns
pub columns_revised : (t : CTable) (r : Revision) → FitsRevision t r → (revised t r).columns ≡ t.columns
columns_revised t (revision.Rows edits) fits = refl
columns_revised t (revision.Table u) fits = fits
