-- What a statement is resolved to fits the schema.
use Rattle.std.proofs.Common.{◌≡◌, ◌+◌, ◌<◌, ◌≤◌, ◌^◌, ℕ, suc, Bool, true, false, not, List, [], ◌∷◌, ◌++◌, length, refl, ap, sym, subst, ◌∙◌, arith}
use Rattle.std.{proofs.lemmas.Bool.{not-true, or_parts, and_parts, eqb-true}, proofs.lemmas.List.append-nil, proofs.lemmas.List.Elements.{All-nil, All-cons}}
use Rattle.std.{proofs.lemmas.Result.IfOk-at_ok, specs.List.list_all, specs.Prelude.{All, nat_eq, Option, Some, None, Ok, IfOk, if◌then◌else◌}}
use Rattle.ct_word.{specs.declared.values.Term.Term, specs.Value.same_text}
use Rattle.ct_query.{specs.declared.action.Ask.Ask, specs.declared.schema.Heading.Heading, specs.declared.schema.Schema.Schema, specs.Plain.PlainStatement}
use Rattle.ct_query.specs.Fields.{FitsFieldsOn}
use Rattle.ct_query.specs.Fits.{columns_in, FitsCell, FitsRows, AreSets, FitsStatement}
use Rattle.ct_parse.specs.declared.tree.Assignment.{Assignment}
use Rattle.ct_parse.{specs.declared.tree.Cell.Cell, specs.declared.tree.Query.Query, specs.declared.tree.Row.Row, specs.declared.tree.Statement.Statement}
use Rattle.ct_resolve.{specs.Conditions.{condition_at, condition_or_true}, specs.Found.{Found, and_then, unless, each}, specs.Queries.{Named, query_at}}
use Rattle.ct_resolve.{specs.Names.{table_in, is_table, are_distinct, column_in}, proofs.FoundParts.{and_then_has, unless_has, itself}}
use Rattle.ct_resolve.specs.Statements.{cell_term, next_after, next_after_all, next_after_rows, cell_terms, cells_of, row_terms, set_at, columns_set, HasRoom, resolved}
use Rattle.ct_resolve.proofs.FittingConditions.{condition_fits, condition_or_true_fits}
use Rattle.ct_resolve.proofs.FittingSets.{AreMade, sets_made, are_sets, fields_fit, IsKey, key_found, distinct_at}
use Rattle.ct_resolve.proofs.FittingQueries.{table_columns, is_there, width_there, FitsNamed, query_fits}
use Rattle.ct_query.specs.declared.action.Ask.TheVariants as ask
use Rattle.ct_query.specs.Plain as plain
use Rattle.ct_parse.specs.declared.tree.Cell.TheVariants as cell
use Rattle.ct_parse.specs.declared.tree.Condition as tree
use Rattle.ct_parse.specs.declared.tree.Statement.TheVariants as statement
use Rattle.ct_resolve.specs.declared.error.ResolveError.TheVariants as fault

-- a table that is not there has no columns
not_first : (b : Bool) (h : Heading) (o : Option (List (List ℕ))) → b ≡ false → o ≡ None → (if b then Some h.columns else o) ≡ None
not_first b h o e is = ap (λ c. if c then Some h.columns else o) e ∙ is

no_columns : (hs : List Heading) (name : List ℕ) → is_table hs name ≡ false → columns_in hs name ≡ None
no_columns [] name e = refl
no_columns (h ∷ hs) name e =
    let parts = or_parts (same_text h.name name) (is_table hs name) e in
    not_first (same_text h.name name) h (columns_in hs name) parts.0 (no_columns hs name parts.1)

-- rows have as many cells as their table has columns
cells_many : (session next : ℕ) (cs : List Cell) → length (cell_terms session next cs) ≡ length cs
cells_many session next [] = refl
cells_many session next (c ∷ cs) = ap suc (cells_many session (next_after next c) cs)

abbrev has_width : ℕ → Row → Bool
has_width n w = nat_eq (length (cells_of w)) n

rows_wide : (session next n : ℕ) (rs : List Row) → list_all (has_width n) rs ≡ true → All (λ r. length r ≡ n) (row_terms session next rs)
rows_wide session next n [] e = All-nil (λ r. length r ≡ n)
rows_wide session next n (r ∷ rs) e =
    let parts = and_parts (has_width n r) (list_all (has_width n) rs) e in
    let after = next_after_all next (cells_of r) in
    All-cons (λ r. length r ≡ n) (cell_terms session next (cells_of r)) (row_terms session after rs)
    (cells_many session next (cells_of r) ∙ eqb-true (length (cells_of r)) n parts.0) (rows_wide session after n rs parts.1)

-- the nulls that a session draws have numbers that a word has room for
cell_rises : (next : ℕ) (c : Cell) → next ≤ next_after next c
cell_rises next (cell.Number i) = omega arith
cell_rises next (cell.Text t) = omega arith
cell_rises next (cell.Null n) = omega arith
cell_rises next cell.NewNull = omega arith

cells_rise : (next : ℕ) (cs : List Cell) → next ≤ next_after_all next cs
cells_rise next [] = omega arith
cells_rise next (c ∷ cs) = omega (arith, cell_rises next c, cells_rise (next_after next c) cs)

rows_rise : (next : ℕ) (rs : List Row) → next ≤ next_after_rows next rs
rows_rise next [] = omega arith
rows_rise next (r ∷ rs) = omega (arith, cells_rise next (cells_of r), rows_rise (next_after_all next (cells_of r)) rs)

module _ (session : ℕ) (first : 1 ≤ session) (last : session ≤ 1023) where
  cell_fits : (next : ℕ) (c : Cell) → 1 ≤ next → next_after next c ≤ 2 ^ 28 → FitsCell (cell_term session next c)
  cell_fits next (cell.Number i) low room = (tt, tt)
  cell_fits next (cell.Text t) low room = (tt, tt)
  cell_fits next (cell.Null n) low room = (tt, tt)
  cell_fits next cell.NewNull low room = (tt, (first, last, low, omega (arith, room)))

  cells_fit : (next : ℕ) (cs : List Cell) → 1 ≤ next → next_after_all next cs ≤ 2 ^ 28 → All FitsCell (cell_terms session next cs)
  cells_fit next [] low room = All-nil FitsCell
  cells_fit next (c ∷ cs) low room =
      let after = next_after next c in
      All-cons FitsCell (cell_term session next c) (cell_terms session after cs)
      (cell_fits next c low (omega (arith, room, cells_rise after cs))) (cells_fit after cs (omega (arith, low, cell_rises next c)) room)

  rows_fit : (next : ℕ) (rs : List Row) → 1 ≤ next → next_after_rows next rs ≤ 2 ^ 28 → All (All FitsCell) (row_terms session next rs)
  rows_fit next [] low room = All-nil (All FitsCell)
  rows_fit next (r ∷ rs) low room =
      let after = next_after_all next (cells_of r) in
      All-cons (All FitsCell) (cell_terms session next (cells_of r)) (row_terms session after rs)
      (cells_fit next (cells_of r) low (omega (arith, room, rows_rise after rs))) (rows_fit after rs (omega (arith, low, cells_rise next (cells_of r))) room)

-- the statements, kind by kind
module _ (schema : Schema) where
  abbrev Fitting : Found PlainStatement → Type 0
  Fitting r = IfOk r (FitsStatement schema.tables)

  creation_fits : (name c : List ℕ) (cs : List (List ℕ)) → Fitting (resolved schema 0 0 (statement.Create name c cs))
  creation_fits name c cs =
      let made : Found PlainStatement = Ok (plain.Act (plain.Create name (c ∷ cs))) in
      unless_has (FitsStatement schema.tables) (not (is_table schema.tables name)) fault.TableExists (unless (are_distinct (c ∷ cs)) fault.DuplicateName made)
      (λ new. unless_has (FitsStatement schema.tables) (are_distinct (c ∷ cs)) fault.DuplicateName made
      (λ _. no_columns schema.tables name (not-true (is_table schema.tables name) new)))

  rows_inserted_fit : (session fresh : ℕ) (name : List ℕ) (r : Row) (rs : List Row) (c : Option tree.Condition) → 1 ≤ session → session ≤ 1023
      → next_after_rows (fresh + 1) (r ∷ rs) ≤ 2 ^ 28 → Fitting (resolved schema session fresh (statement.InsertRows name r rs c))
  rows_inserted_fit session fresh name r rs c first last room =
      let terms = row_terms session (fresh + 1) (r ∷ rs) in
      let inserted : Found PlainStatement = and_then (condition_or_true [] c) (λ d. Ok (plain.Act (plain.InsertRows name terms d))) in
      and_then_has (λ h. columns_in schema.tables name ≡ Some h.columns) (FitsStatement schema.tables) (table_in schema.tables name)
      (λ h. unless (list_all (has_width (length h.columns)) (r ∷ rs)) fault.ColumnCount inserted) (table_columns schema.tables name)
      (λ h e. unless_has (FitsStatement schema.tables) (list_all (has_width (length h.columns)) (r ∷ rs)) fault.ColumnCount inserted
      (λ wide. and_then_has (FitsRows 0) (FitsStatement schema.tables) (condition_or_true [] c) (λ d. Ok (plain.Act (plain.InsertRows name terms d))) (condition_or_true_fits [] c)
      (λ d fit. (
        is_there schema.tables name h.columns e,
        subst (λ n. All (λ r. length r ≡ n) terms) (sym (width_there schema.tables name h.columns e)) (rows_wide session (fresh + 1) (length h.columns) (r ∷ rs) wide),
        rows_fit session first last (fresh + 1) (r ∷ rs) (omega arith) room,
        fit,
      ))))

  query_inserted_fits : (name : List ℕ) (q : Query) → Fitting (resolved schema 0 0 (statement.InsertQuery name q))
  query_inserted_fits name q =
      let inserted : Named → Found PlainStatement = λ a. Ok (plain.Act (plain.InsertQuery name a.query)) in
      and_then_has (λ h. columns_in schema.tables name ≡ Some h.columns) (FitsStatement schema.tables) (table_in schema.tables name)
      (λ h. and_then (query_at schema.tables q) (λ a. unless (nat_eq (length a.columns) (length h.columns)) fault.ColumnCount (inserted a))) (table_columns schema.tables name)
      (λ h e. and_then_has (FitsNamed schema.tables) (FitsStatement schema.tables) (query_at schema.tables q)
      (λ a. unless (nat_eq (length a.columns) (length h.columns)) fault.ColumnCount (inserted a)) (query_fits schema.tables q)
      (λ a fits. unless_has (FitsStatement schema.tables) (nat_eq (length a.columns) (length h.columns)) fault.ColumnCount (inserted a)
      (λ same. (is_there schema.tables name h.columns e, sym fits.1 ∙ eqb-true (length a.columns) (length h.columns) same ∙ sym (width_there schema.tables name h.columns e), fits.0))))

  deletion_fits : (name : List ℕ) (c : Option tree.Condition) → Fitting (resolved schema 0 0 (statement.Delete name c))
  deletion_fits name c =
      and_then_has (λ h. columns_in schema.tables name ≡ Some h.columns) (FitsStatement schema.tables) (table_in schema.tables name)
      (λ h. and_then (condition_or_true (h ∷ []) c) (λ d. Ok (plain.Act (plain.Delete name d)))) (table_columns schema.tables name)
      (λ h e. and_then_has (FitsRows (length (h.columns ++ []))) (FitsStatement schema.tables) (condition_or_true (h ∷ []) c) (λ d. Ok (plain.Act (plain.Delete name d)))
      (condition_or_true_fits (h ∷ []) c)
      (λ d fit. (is_there schema.tables name h.columns e, subst (λ n. FitsRows n d) (ap length (append-nil h.columns) ∙ sym (width_there schema.tables name h.columns e)) fit)))

  update_fits : (name : List ℕ) (a : Assignment) (bs : List Assignment) (c : Option tree.Condition) → Fitting (resolved schema 0 0 (statement.Update name a bs c))
  update_fits name a bs c =
      let once = are_distinct (columns_set (a ∷ bs)) in
      let updated : Heading → List (ℕ × Term) → Found PlainStatement = λ h sets. and_then (condition_or_true (h ∷ []) c) (λ d. Ok (plain.Act (plain.Update name sets d))) in
      and_then_has (λ h. table_in schema.tables name ≡ Ok h) (FitsStatement schema.tables) (table_in schema.tables name)
      (λ h. and_then (each (set_at h) (a ∷ bs)) (λ sets. unless once fault.DuplicateName (updated h sets))) (itself (table_in schema.tables name))
      (λ h found.
      let there = IfOk-at_ok (λ h. columns_in schema.tables name ≡ Some h.columns) found (table_columns schema.tables name) in
      let many = sym (width_there schema.tables name h.columns there) in
      and_then_has (AreMade h (a ∷ bs)) (FitsStatement schema.tables) (each (set_at h) (a ∷ bs)) (λ sets. unless once fault.DuplicateName (updated h sets))
      (sets_made h (a ∷ bs))
      (λ sets made. unless_has (FitsStatement schema.tables) once fault.DuplicateName (updated h sets)
      (λ different. and_then_has (FitsRows (length (h.columns ++ []))) (FitsStatement schema.tables) (condition_or_true (h ∷ []) c) (λ d. Ok (plain.Act (plain.Update name sets d)))
      (condition_or_true_fits (h ∷ []) c)
      (λ d fit. (
        is_there schema.tables name h.columns there,
        subst (λ n. AreSets n sets) many (are_sets h (a ∷ bs) sets made different),
        subst (λ n. All (λ b. FitsFieldsOn n b.1) sets) many (fields_fit h sets made.fit),
        subst (λ n. FitsRows n d) (ap length (append-nil h.columns) ∙ many) fit,
      )))))

  existence_fits : (wanted : Bool) (q : Query) → Fitting (and_then (query_at schema.tables q) (λ a. Ok (plain.Act (plain.AssertQuery wanted a.query))))
  existence_fits wanted q =
      and_then_has (FitsNamed schema.tables) (FitsStatement schema.tables) (query_at schema.tables q) (λ a. Ok (plain.Act (plain.AssertQuery wanted a.query))) (query_fits schema.tables q)
      (λ a fits. fits.0)

  key_fits : (name c : List ℕ) (cs : List (List ℕ)) → Fitting (resolved schema 0 0 (statement.AssertKey name c cs))
  key_fits name c cs =
      let asserted : List ℕ → Found PlainStatement = λ ks. Ok (plain.Act (plain.AssertKey name ks)) in
      let once = are_distinct (c ∷ cs) in
      and_then_has (λ h. columns_in schema.tables name ≡ Some h.columns) (FitsStatement schema.tables) (table_in schema.tables name)
      (λ h. and_then (each (column_in h) (c ∷ cs)) (λ ks. unless once fault.DuplicateName (asserted ks))) (table_columns schema.tables name)
      (λ h e. and_then_has (IsKey h (c ∷ cs)) (FitsStatement schema.tables) (each (column_in h) (c ∷ cs)) (λ ks. unless once fault.DuplicateName (asserted ks)) (key_found h (c ∷ cs))
      (λ ks is. unless_has (FitsStatement schema.tables) once fault.DuplicateName (asserted ks)
      (λ different. (
        is_there schema.tables name h.columns e,
        subst (λ n. All (λ k. k < n) ks) (sym (width_there schema.tables name h.columns e)) is.below,
        distinct_at h (c ∷ cs) ks is.at different,
      ))))

  assertion_fits : (c : tree.Condition) → Fitting (resolved schema 0 0 (statement.Assert c))
  assertion_fits c =
      and_then_has (FitsRows 0) (FitsStatement schema.tables) (condition_at [] c) (λ d. Ok (plain.Act (plain.Assert d))) (condition_fits [] c) (λ d fit. fit)

  asked_fits : (a : Ask) (q : Query) → Fitting (and_then (query_at schema.tables q) (λ n. Ok (plain.Asks a n.columns n.query)))
  asked_fits a q =
      and_then_has (FitsNamed schema.tables) (FitsStatement schema.tables) (query_at schema.tables q) (λ n. Ok (plain.Asks a n.columns n.query)) (query_fits schema.tables q) (λ n fits. fits)

  -- a statement
  statement_fits : (session fresh : ℕ) (st : Statement) → 1 ≤ session → session ≤ 1023 → HasRoom fresh st → Fitting (resolved schema session fresh st)
  statement_fits session fresh (statement.Create name c cs) first last room = creation_fits name c cs
  statement_fits session fresh (statement.InsertRows name r rs c) first last room = rows_inserted_fit session fresh name r rs c first last room
  statement_fits session fresh (statement.InsertQuery name q) first last room = query_inserted_fits name q
  statement_fits session fresh (statement.Delete name c) first last room = deletion_fits name c
  statement_fits session fresh (statement.Update name a bs c) first last room = update_fits name a bs c
  statement_fits session fresh (statement.Assert c) first last room = assertion_fits c
  statement_fits session fresh (statement.AssertExists negated q) first last room = existence_fits (not negated) q
  statement_fits session fresh (statement.AssertKey name c cs) first last room = key_fits name c cs
  statement_fits session fresh (statement.Rows q) first last room = asked_fits ask.Rows q
  statement_fits session fresh (statement.Possible q) first last room = asked_fits ask.Possible q
  statement_fits session fresh (statement.Certain q) first last room = asked_fits ask.Certain q
  statement_fits session fresh statement.Begin first last room = tt
  statement_fits session fresh statement.Commit first last room = tt
  statement_fits session fresh statement.Rollback first last room = tt

pub resolved_fits : (schema : Schema) (session fresh : ℕ) (st : Statement) (r : PlainStatement) → 1 ≤ session → session ≤ 1023 → HasRoom fresh st
    → resolved schema session fresh st ≡ Ok r → FitsStatement schema.tables r
resolved_fits schema session fresh st r first last room e = IfOk-at_ok (FitsStatement schema.tables) e (statement_fits schema session fresh st first last room)
