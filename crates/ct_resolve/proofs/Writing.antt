-- What a statement that is spelled by lexemes as a text writes them is resolved to can be written.
use Rattle.std.{proofs.Common.{◌≡◌, ◌+◌, ℕ, Bool, true, false, not, List, [], ◌∷◌, length, refl}, proofs.lemmas.List.Elements.{All-nil, All-cons, All-head, All-tail}}
use Rattle.std.{proofs.lemmas.Result.IfOk-at_ok, specs.List.list_all, specs.Prelude.{All, nat_eq, Ok, Option, Some, None, IfOk}}
use Rattle.ct_word.specs.declared.values.Term.{Term}
use Rattle.ct_query.{specs.declared.action.Ask.Ask, specs.declared.schema.Heading.Heading, specs.declared.schema.Schema.Schema, specs.Plain.PlainStatement}
use Rattle.ct_lex.{specs.declared.token.Lexeme.Lexeme, specs.Written.AreWritten}
use Rattle.ct_parse.specs.declared.tree.Assignment.{Assignment}
use Rattle.ct_parse.{specs.declared.tree.Cell.Cell, specs.declared.tree.Query.Query, specs.declared.tree.Row.Row, specs.declared.tree.Statement.Statement}
use Rattle.ct_parse.specs.Grammar.{IsCell, number_cell, text_cell, null_cell, new_null, IsRow, row, IsQuery, IsAssignment, assignment, IsEnclosed, enclosed, IsStatement, create, insert_rows, insert_query, delete, update, assert, assert_exists, assert_not_exists, assert_key, rows, possible, certain, begin, commit, rollback}
use Rattle.ct_resolve.{specs.Conditions.{term_at, condition_at, condition_or_true}, specs.Found.{Found, and_then, unless, each}, specs.Queries.{Named, query_at, where_of}}
use Rattle.ct_resolve.{specs.Names.{table_in, is_table, are_distinct, column_in}, specs.Writing.{IsNamed, WritesTerm, Writes, WritesStatement, NamesColumns}}
use Rattle.ct_resolve.specs.Statements.{cell_term, next_after, next_after_all, cell_terms, cells_of, row_terms, set_at, columns_set, resolved}
use Rattle.ct_resolve.{proofs.FoundParts.{and_then_has, unless_has, in_front_has}, proofs.WritingConditions.{any_found_at_all, name_writes, term_writes, Good, good}}
use Rattle.ct_resolve.proofs.WritingQueries.{more_write, closed_write, behind_writes, WritesNamed, query_writes}
use Rattle.ct_query.specs.declared.action.Ask.TheVariants as ask
use Rattle.ct_query.specs.Plain as plain
use Rattle.ct_parse.specs.declared.tree.Condition as tree
use Rattle.ct_resolve.specs.declared.error.ResolveError.TheVariants as fault

-- cells and rows
abbrev WritesCell : Cell → Type 0
WritesCell c = (session next : ℕ) → WritesTerm (cell_term session next c)

abbrev WritesRow : Row → Type 0
WritesRow r = All WritesCell (cells_of r)

cell_writes : {ws r : List Lexeme} {c : Cell} → IsCell ws c r → AreWritten ws → WritesCell c × AreWritten r
cell_writes number_cell h = (λ session next. refl, h.1)
cell_writes text_cell h = (λ session next. refl, h.1)
cell_writes null_cell h = (λ session next. h.0, h.1)
cell_writes new_null h = (λ session next. refl, h.1)

row_writes : {ws r : List Lexeme} {w : Row} → IsRow ws w r → AreWritten ws → WritesRow w × AreWritten r
row_writes (row d) h = closed_write WritesCell (λ us r x e. cell_writes e) d h

terms_write : (session next : ℕ) (cs : List Cell) → All WritesCell cs → All WritesTerm (cell_terms session next cs)
terms_write session next [] all = All-nil WritesTerm
terms_write session next (c ∷ cs) all =
    All-cons WritesTerm (cell_term session next c) (cell_terms session (next_after next c) cs) (All-head WritesCell c cs all session next)
    (terms_write session (next_after next c) cs (All-tail WritesCell c cs all))

rows_write : (session next : ℕ) (rs : List Row) → All WritesRow rs → All (All WritesTerm) (row_terms session next rs)
rows_write session next [] all = All-nil (All WritesTerm)
rows_write session next (r ∷ rs) all =
    let after = next_after_all next (cells_of r) in
    All-cons (All WritesTerm) (cell_terms session next (cells_of r)) (row_terms session after rs) (terms_write session next (cells_of r) (All-head WritesRow r rs all))
    (rows_write session after rs (All-tail WritesRow r rs all))

-- assignments
abbrev WritesSet : Assignment → Type 0
WritesSet a = (t : Heading) → IfOk (term_at (t ∷ []) a.value) WritesTerm

abbrev WritesSetTerm : ℕ × Term → Type 0
WritesSetTerm b = WritesTerm b.1

assignment_writes : {ws r : List Lexeme} {a : Assignment} → IsAssignment ws a r → AreWritten ws → WritesSet a × AreWritten r
assignment_writes (assignment n v) h = let own = name_writes n h in (λ t. (term_writes (t ∷ []) v own.1.1).0, (term_writes [] v own.1.1).1)

set_writes : (t : Heading) (a : Assignment) → WritesSet a → IfOk (set_at t a) WritesSetTerm
set_writes t a writes =
    and_then_has (λ _. Unit {0}) WritesSetTerm (column_in t a.column) (λ k. and_then (term_at (t ∷ []) a.value) (λ v. Ok (k, v))) (any_found_at_all (column_in t a.column))
    (λ k _. and_then_has WritesTerm WritesSetTerm (term_at (t ∷ []) a.value) (λ v. Ok (k, v)) (writes t) (λ v w. w))

sets_write : (t : Heading) (bs : List Assignment) → All WritesSet bs → IfOk (each (set_at t) bs) (All WritesSetTerm)
sets_write t [] all = All-nil WritesSetTerm
sets_write t (a ∷ bs) all = in_front_has WritesSetTerm (set_at t a) (each (set_at t) bs) (set_writes t a (All-head WritesSet a bs all)) (sets_write t bs (All-tail WritesSet a bs all))

-- a condition that may be left out
or_true_writes : (scope : List Heading) (c : Option tree.Condition) → All Good (where_of c) → IfOk (condition_or_true scope c) Writes
or_true_writes scope None all = refl
or_true_writes scope (Some c) all = All-head Good c [] all scope

-- a statement that can be written, and whose columns are named
abbrev pub IsWritable : List Heading → PlainStatement → Type 0
IsWritable schema r = WritesStatement r × NamesColumns schema r

module _ (schema : Schema) where
  asked_writes : (a : Ask) {ws r : List Lexeme} {q : Query} → IsQuery ws q r → AreWritten ws → IfOk (and_then (query_at schema.tables q) (λ n. Ok (plain.Asks a n.columns n.query))) (IsWritable schema.tables)
  asked_writes a {q = q} d h =
      and_then_has (WritesNamed schema.tables) (IsWritable schema.tables) (query_at schema.tables q) (λ n. Ok (plain.Asks a n.columns n.query)) (query_writes schema.tables d h).0 (λ n w. w)

  existence_writes : (wanted : Bool) {ws r : List Lexeme} {q : Query} → IsEnclosed ws q r → AreWritten ws
      → IfOk (and_then (query_at schema.tables q) (λ a. Ok (plain.Act (plain.AssertQuery wanted a.query)))) (IsWritable schema.tables)
  existence_writes wanted (enclosed {q = q} d) h =
      and_then_has (WritesNamed schema.tables) (IsWritable schema.tables) (query_at schema.tables q) (λ a. Ok (plain.Act (plain.AssertQuery wanted a.query))) (query_writes schema.tables d h.1).0 (λ a w. (w.0, tt))

  statement_writes : (session fresh : ℕ) {ws r : List Lexeme} {st : Statement} → IsStatement ws st r → AreWritten ws → IfOk (resolved schema session fresh st) (IsWritable schema.tables)
  statement_writes session fresh (create {n = n} {c = c} {cs = cs} d ds) h =
      let own = name_writes d h.1.1 in
      let made : Found PlainStatement = Ok (plain.Act (plain.Create n (c ∷ cs))) in
      unless_has (IsWritable schema.tables) (not (is_table schema.tables n)) fault.TableExists (unless (are_distinct (c ∷ cs)) fault.DuplicateName made)
      (λ _. unless_has (IsWritable schema.tables) (are_distinct (c ∷ cs)) fault.DuplicateName made (λ _. ((own.0, (closed_write IsNamed (λ us r x e. name_writes e) ds own.1).0), tt)))
  statement_writes session fresh (insert_rows {n = n} {w = w} {vs = vs} {c = c} d first others behind) h =
      let own = name_writes d h.1.1 in
      let one = row_writes first own.1.1 in
      let more = more_write WritesRow (λ us r x e. row_writes e) others one.1 in
      let tested = behind_writes behind more.1 in
      let terms = row_terms session (fresh + 1) (w ∷ vs) in
      let inserted : Found PlainStatement = and_then (condition_or_true [] c) (λ e. Ok (plain.Act (plain.InsertRows n terms e))) in
      and_then_has (λ _. Unit {0}) (IsWritable schema.tables) (table_in schema.tables n) (λ t. unless (list_all (λ v. nat_eq (length (cells_of v)) (length t.columns)) (w ∷ vs)) fault.ColumnCount inserted)
      (any_found_at_all (table_in schema.tables n))
      (λ t _. unless_has (IsWritable schema.tables) (list_all (λ v. nat_eq (length (cells_of v)) (length t.columns)) (w ∷ vs)) fault.ColumnCount inserted
      (λ _. and_then_has Writes (IsWritable schema.tables) (condition_or_true [] c) (λ e. Ok (plain.Act (plain.InsertRows n terms e))) (or_true_writes [] c tested.0)
      (λ e writes. ((own.0, rows_write session (fresh + 1) (w ∷ vs) (All-cons WritesRow w vs one.0 more.0), writes), tt))))
  statement_writes session fresh (insert_query {n = n} {q = q} d e) h =
      let own = name_writes d h.1.1 in
      let inserted : Named → Found PlainStatement = λ a. Ok (plain.Act (plain.InsertQuery n a.query)) in
      and_then_has (λ _. Unit {0}) (IsWritable schema.tables) (table_in schema.tables n)
      (λ t. and_then (query_at schema.tables q) (λ a. unless (nat_eq (length a.columns) (length t.columns)) fault.ColumnCount (inserted a))) (any_found_at_all (table_in schema.tables n))
      (λ t _. and_then_has (WritesNamed schema.tables) (IsWritable schema.tables) (query_at schema.tables q) (λ a. unless (nat_eq (length a.columns) (length t.columns)) fault.ColumnCount (inserted a)) (query_writes schema.tables e own.1).0
      (λ a w. unless_has (IsWritable schema.tables) (nat_eq (length a.columns) (length t.columns)) fault.ColumnCount (inserted a) (λ _. ((own.0, w.0), tt))))
  statement_writes session fresh (delete {n = n} {c = c} d behind) h =
      let own = name_writes d h.1.1 in
      let tested = behind_writes behind own.1 in
      and_then_has (λ _. Unit {0}) (IsWritable schema.tables) (table_in schema.tables n) (λ t. and_then (condition_or_true (t ∷ []) c) (λ e. Ok (plain.Act (plain.Delete n e)))) (any_found_at_all (table_in schema.tables n))
      (λ t _. and_then_has Writes (IsWritable schema.tables) (condition_or_true (t ∷ []) c) (λ e. Ok (plain.Act (plain.Delete n e))) (or_true_writes (t ∷ []) c tested.0) (λ e w. ((own.0, w), tt)))
  statement_writes session fresh (update {n = n} {a = a} {bs = bs} {c = c} d first others behind) h =
      let own = name_writes d h.1 in
      let one = assignment_writes first own.1.1 in
      let more = more_write WritesSet (λ us r x e. assignment_writes e) others one.1 in
      let tested = behind_writes behind more.1 in
      let once = are_distinct (columns_set (a ∷ bs)) in
      let updated : Heading → List (ℕ × Term) → Found PlainStatement = λ t sets. and_then (condition_or_true (t ∷ []) c) (λ e. Ok (plain.Act (plain.Update n sets e))) in
      and_then_has (λ _. Unit {0}) (IsWritable schema.tables) (table_in schema.tables n) (λ t. and_then (each (set_at t) (a ∷ bs)) (λ sets. unless once fault.DuplicateName (updated t sets)))
      (any_found_at_all (table_in schema.tables n))
      (λ t _. and_then_has (All WritesSetTerm) (IsWritable schema.tables) (each (set_at t) (a ∷ bs)) (λ sets. unless once fault.DuplicateName (updated t sets))
      (sets_write t (a ∷ bs) (All-cons WritesSet a bs one.0 more.0))
      (λ sets all. unless_has (IsWritable schema.tables) once fault.DuplicateName (updated t sets)
      (λ _. and_then_has Writes (IsWritable schema.tables) (condition_or_true (t ∷ []) c) (λ e. Ok (plain.Act (plain.Update n sets e))) (or_true_writes (t ∷ []) c tested.0)
      (λ e w. ((own.0, all, w), tt)))))
  statement_writes session fresh (assert_exists {q = q} d) h = existence_writes true d h.1.1
  statement_writes session fresh (assert_not_exists {q = q} d) h = existence_writes false d h.1.1.1
  statement_writes session fresh (assert_key {n = n} {c = c} {cs = cs} d ds) h =
      let own = name_writes d h.1.1 in
      let once = are_distinct (c ∷ cs) in
      let asserted : List ℕ → Found PlainStatement = λ ks. Ok (plain.Act (plain.AssertKey n ks)) in
      and_then_has (λ _. Unit {0}) (IsWritable schema.tables) (table_in schema.tables n) (λ t. and_then (each (column_in t) (c ∷ cs)) (λ ks. unless once fault.DuplicateName (asserted ks)))
      (any_found_at_all (table_in schema.tables n))
      (λ t _. and_then_has (λ _. Unit {0}) (IsWritable schema.tables) (each (column_in t) (c ∷ cs)) (λ ks. unless once fault.DuplicateName (asserted ks)) (any_found_at_all (each (column_in t) (c ∷ cs)))
      (λ ks _. unless_has (IsWritable schema.tables) once fault.DuplicateName (asserted ks) (λ _. (own.0, tt))))
  statement_writes session fresh (assert {c = c} d) h =
      and_then_has Writes (IsWritable schema.tables) (condition_at [] c) (λ e. Ok (plain.Act (plain.Assert e))) ((good d h.1).0 []) (λ e w. (w, tt))
  statement_writes session fresh (rows d) h = asked_writes ask.Rows d h
  statement_writes session fresh (possible d) h = asked_writes ask.Possible d h.1
  statement_writes session fresh (certain d) h = asked_writes ask.Certain d h.1
  statement_writes session fresh begin h = (tt, tt)
  statement_writes session fresh commit h = (tt, tt)
  statement_writes session fresh rollback h = (tt, tt)

pub resolved_writes : (schema : Schema) (session fresh : ℕ) (st : Statement) (r : PlainStatement) → resolved schema session fresh st ≡ Ok r
    → (ws : List Lexeme) → AreWritten ws → IsStatement ws st [] → IsWritable schema.tables r
resolved_writes schema session fresh st r e ws h d = IfOk-at_ok (IsWritable schema.tables) e (statement_writes schema session fresh d h)
