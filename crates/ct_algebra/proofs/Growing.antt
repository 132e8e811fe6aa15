-- Answers and the tables that they are over stay what they are as words are added.
use Rattle.std.{proofs.Common.{◌≡◌, ℕ, List, [], ◌∷◌, length, refl, sym, subst, inl, inr}, specs.Prelude.if◌then◌else◌}
use Rattle.std.proofs.lemmas.List.Elements.{All-head, All-tail, All-weaker, recursion_from_All}
use Rattle.ct_word.{specs.declared.values.Term.Term, specs.Value.{World, same_text}, specs.WellFormed.IsWellFormed, specs.Sublist.IsSublist}
use Rattle.ct_query.{specs.Plain.PlainQuery, specs.Database.SameSet, specs.Rows.rows, specs.Patterns.query_pattern}
use Rattle.ct_operators.{specs.declared.table.CTable.CTable, specs.Tables.{cells_of, value_of_rows, AreRows}}
use Rattle.ct_operators.{proofs.Growing.{cells_grow, value_grows, rows_grow}, proofs.Reaching.{rows_wider, rows_later, rows_before}}
use Rattle.ct_table.{specs.Denotes.{TableView, value_of_tables}, proofs.Denoting.found_all}
use Rattle.ct_algebra.{specs.Operands.{AreTables, cells_in}, specs.Evaluates.Evaluates, specs.Terms.TermOfQuery}
use mathlib.Core.List.{IsPrefix}

module _ (old now : List ℕ) (grown : IsPrefix old now) where
  pub tables_grow : IsWellFormed old → (db : List TableView) → AreTables old db → AreTables now db
  tables_grow formed db are =
      All-weaker (λ t. AreRows old (length t.columns) t.rows) (λ t. AreRows now (length t.columns) t.rows) (λ t. rows_grow old now grown formed (length t.columns) t.rows) db are

  -- the tables are worth the same
  tables_worth : (v : World) (db : List TableView) → AreTables old db → value_of_tables now v db ≡ value_of_tables old v db
  tables_worth v [] are = refl
  tables_worth v (t ∷ db) are =
      λ i. record {
        name = t.name;
        columns = t.columns;
        tuples = value_grows old now grown v (length t.columns) t.rows (All-head (λ (x : TableView). AreRows old (length x.columns) x.rows) t db are).each i;
      } ∷ tables_worth v db (All-tail (λ (x : TableView). AreRows old (length x.columns) x.rows) t db are) i

  -- they have the same cells
  same_cells_in : (db : List TableView) → AreTables old db → (name : List ℕ) → cells_in now db name ≡ cells_in old db name
  same_cells_in [] are name = refl
  same_cells_in (t ∷ db) are name =
      λ i. if same_text t.name name
      then cells_grow old now grown (length t.columns) t.rows (All-head (λ (x : TableView). AreRows old (length x.columns) x.rows) t db are).each i
      else same_cells_in db (All-tail (λ (x : TableView). AreRows old (length x.columns) x.rows) t db are) name i

  -- and the terms below them stood there before
  terms_before : IsWellFormed old → (db : List TableView) → AreTables old db → (q : PlainQuery) (t : Term) → TermOfQuery now db q t → TermOfQuery old db q t
  terms_before formed db are q t (inl h) =
      let its = found_all (λ (x : TableView). AreRows old (length x.columns) x.rows) h.name h.table db (recursion_from_All (λ (x : TableView). AreRows old (length x.columns) x.rows) db are) h.found in
      inl (record { name = h.name; is_read = h.is_read; table = h.table; found = h.found; below = rows_before old now grown formed (length h.table.columns) h.table.rows t its.each h.below })
  terms_before formed db are q t (inr h) = inr h

-- an answer, as words are added to it
pub answer_grows : (old now new : List ℕ) (db : List TableView) (q : PlainQuery) (t : CTable) → IsPrefix now new → IsWellFormed now → Evaluates old now db q t → Evaluates old new db q t
answer_grows old now new db q t longer formed s = record {
  width_is = s.width_is;
  are = rows_grow now new longer formed (length t.columns) t.rows s.are;
  tuples = λ v. subst (λ l. SameSet l (rows v q (value_of_tables old v db))) (sym (value_grows now new longer v (length t.columns) t.rows s.are.each)) (s.tuples v);
  part = subst (λ cs. IsSublist cs (query_pattern (cells_in old db) q)) (sym (cells_grow now new longer (length t.columns) t.rows s.are.each)) s.part;
  from = rows_later now new longer formed (length t.columns) (TermOfQuery old db q) t.rows s.are.each s.from;
}

-- an answer, said of the tables of the words before
pub answer_before : (old now new : List ℕ) (db : List TableView) (q : PlainQuery) (t : CTable) → IsPrefix old now → IsWellFormed old → AreTables old db → Evaluates now new db q t → Evaluates old new db q t
answer_before old now new db q t grown formed are s = record {
  width_is = s.width_is;
  are = s.are;
  tuples = λ v. subst (λ w. SameSet (value_of_rows new v t.rows) (rows v q w)) (tables_worth old now grown v db are) (s.tuples v);
  part = subst (λ p. IsSublist (cells_of new t.rows) (query_pattern p q)) (λ i name. same_cells_in old now grown db are name i) s.part;
  from = rows_wider new (TermOfQuery now db q) (TermOfQuery old db q) (terms_before old now grown formed db are q) t.rows s.from;
}
