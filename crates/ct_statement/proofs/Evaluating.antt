-- Queries over tables that denote a history and further actions: what answers them, and why they are refused.
use Rattle.std.proofs.Common.{◌≡◌, ℕ, zero, suc, ◌+◌, ◌*◌, ◌<◌, ◌≤◌, List, [], ◌∷◌, map, length, refl, ap, sym, subst, ◌∙◌, arith}
use Rattle.std.{specs.Prelude.{None, Err, if◌then◌else◌}, specs.List.Contains, proofs.lemmas.Nat.mul-le}
use Rattle.std.proofs.lemmas.List.Elements.{All-weaker}
use Rattle.ct_word.{specs.declared.values.CRow.CRow, specs.Value.same_text, specs.Sublist.IsSublist, specs.Change.PlainCommit, specs.WellFormed.IsWellFormed}
use Rattle.ct_query.{specs.Bounds.{nodes, bound}, specs.Plain.{PlainQuery, PlainAction}, specs.Patterns.{query_pattern, count}, specs.Schema.schema}
use Rattle.ct_query.{specs.Size.{size, rows_in, row_bound}, specs.declared.action.Ask.Ask, proofs.Sublists.sublist_of_sublist}
use Rattle.ct_arena.specs.Seen.{Seen}
use Rattle.ct_condition.specs.Writes.{PassWrites}
use Rattle.ct_operators.{specs.declared.table.CTable.CTable, specs.Tables.{cells_of, value_of_rows, AreRows}, proofs.Reaching.rows_wider}
use Rattle.ct_table.{specs.Counting.count_of, specs.Denotes.{TableView, IsKept, Denotes}, specs.Snapshot.IsGlobal, proofs.QuerySizes.{row_bound_grows, size_grows}}
use Rattle.ct_table.proofs.ByTables.{rows_in_found, tables_counted, answered_by_tables, pattern_by_tables}
use Rattle.ct_table.proofs.Snapshots.{global_grows}
use Rattle.ct_algebra.{specs.Evaluates.{limit, Evaluates}, specs.Operands.AreTables, specs.Terms.TermOfQuery, proofs.Found.cells_by_name}
use Rattle.ct_algebra.specs.declared.error.EvalError.{EvalError}
use Rattle.ct_certain.{specs.Faults.is_full, specs.declared.error.CertainError.CertainError}
use Rattle.ct_statement.{specs.Asking.{terms_of_query, AnswersQuery, IsUnasked, unanswered, unlisted}, specs.Making.widths_in, specs.Unmet.IsUnmet}
use Rattle.ct_statement.{proofs.AskedTerms.of_query_asked, proofs.Weights.{nodes_grow, makes_words_still}}
use mathlib.Core.List.{IsPrefix}
use Rattle.ct_query.specs.Bounds as bounds
use Rattle.ct_query.specs.Plain as plain
use Rattle.ct_query.specs.declared.action.Ask.TheVariants as ask
use Rattle.ct_algebra.specs.declared.error.EvalError.TheVariants as eval
use Rattle.ct_certain.specs.declared.error.CertainError.TheVariants as fault
use Rattle.ct_transcript.specs.declared.reply.Refusal.TheVariants as refusal

module _ (old : List ℕ) (h : List PlainCommit) (actions : List PlainAction) (db : List TableView) (d : Denotes old h actions db) where
  -- the rows of the tables are well formed
  pub are_tables : AreTables old db
  are_tables = All-weaker (IsKept old h actions) (λ t. AreRows old (length t.columns) t.rows) (λ t k. k.rows) db d.worth.kept

  -- each table has at most as many rows as are counted in the history
  pub rows_fewer : (name : List ℕ) → rows_in (map count_of db) name ≤ count h actions name
  rows_fewer name = subst (λ n. n ≤ count h actions name) (sym (rows_in_found count_of (λ t. refl) (λ t. refl) db name)) (tables_counted old h actions db d.worth name)

  -- nor are the rows of a query more
  pub few_counted : (q : PlainQuery) (n : ℕ) → n ≤ row_bound (rows_in (map count_of db)) q → n ≤ row_bound (count h actions) q
  few_counted q n few = let more = row_bound_grows (rows_in (map count_of db)) (count h actions) rows_fewer q in omega (arith, few, more)

  module _ (new : List ℕ) (q : PlainQuery) where
    -- a table that answers a query over the tables answers it after the history and the actions
    pub answers_query : IsPrefix old new → IsWellFormed new → (global : ℕ) → IsGlobal old h actions global → (t : CTable) → Evaluates old new db q t
        → AnswersQuery new global h actions q (length t.columns) t.rows
    answers_query longer formed global g t e = record {
      condition = global_grows old new longer formed h actions global g;
      are = e.are;
      tuples = λ v. answered_by_tables old h actions db d.worth v q (value_of_rows new v t.rows) (e.tuples v);
      part = sublist_of_sublist _ _ _ (subst (λ p. IsSublist (cells_of new t.rows) (query_pattern p q)) (λ i name. cells_by_name old name db i) e.part) (pattern_by_tables old h actions db d.worth q);
      from = rows_wider new (TermOfQuery old db q) (Contains (terms_of_query h actions q)) (of_query_asked h actions q old db d) t.rows e.from;
    }

    -- the errors of the evaluation are causes
    pub evaluation_fails : (room made made' : ℕ) (e : EvalError) → made ≤ made' → (e ≡ eval.TooLarge → limit < size (rows_in (map count_of db)) q) → (e ≡ eval.Full → length new ≡ room)
        → (e ≡ eval.Full → made' < made + nodes (rows_in (map count_of db)) q) → IsUnasked h actions room new q (unanswered e)
    evaluation_fails room made made' eval.TooLarge rises past full fewer =
        let over = past refl in let at_most = size_grows (rows_in (map count_of db)) (count h actions) rows_fewer q in omega (arith, over, at_most)
    evaluation_fails room made made' eval.Full rises past full fewer =
        let lt = fewer refl in
        let more = nodes_grow (rows_in (map count_of db)) (count h actions) rows_fewer q in
        (full refl, omega (arith, rises, lt, more))
    evaluation_fails room made made' eval.Memory rises past full fewer = tt

    -- a full log is a cause, where what is asked may make a word
    fails_full : (room : ℕ) (k : Ask) (columns : List (List ℕ)) → length new ≡ room
        → 1 ≤ bound (rows_in (map count_of db)) (widths_in (schema h actions).tables) None (plain.Asks k columns q) → IsUnmet h actions room new (plain.Asks k columns q) refusal.Full
    fails_full room k columns full makes =
        record { full = full; makes_words = λ own. makes_words_still (rows_in (map count_of db)) (count h actions) rows_fewer (widths_in (schema h actions).tables) own (plain.Asks k columns q) makes }

  -- the errors of the lists are causes
  module _ (T : Type 0) {room : ℕ} (mid new : Seen) (q : PlainQuery) (columns : List (List ℕ)) (r : ℕ) (few : r ≤ row_bound (rows_in (map count_of db)) q) where
    pub possible_fails : (e : CertainError) → PassWrites room mid new r (is_full {T = T} (Err e)) → IsUnmet h actions room new.words (plain.Asks ask.Possible columns q) (unlisted e)
    possible_fails fault.Full w =
        let rises : mid.made ≤ new.made = w.rises in
        let most : new.made + 1 ≤ mid.made + r = w.made in
        fails_full new.words q room ask.Possible columns (w.full refl) (omega (arith, rises, most, few))
    possible_fails fault.Memory w = tt

    pub certain_fails : (k : ℕ) (e : CertainError) → PassWrites room mid new (r * (r * (2 * k + 2) + k + 1)) (is_full {T = T} (Err e)) → IsUnmet h actions room new.words (plain.Asks ask.Certain columns q) (unlisted e)
    certain_fails k fault.Full w = fails_full new.words q room ask.Certain columns (w.full refl) (some_words (row_bound (rows_in (map count_of db)) q) (bounds.width q) (has_row r w.made few)) where
      has_row : (r : ℕ) → new.made + 1 ≤ mid.made + r * (r * (2 * k + 2) + k + 1) → r ≤ row_bound (rows_in (map count_of db)) q → 1 ≤ row_bound (rows_in (map count_of db)) q
      has_row zero most few = let rises : mid.made ≤ new.made = w.rises in absurd (omega (arith, rises, most))
      has_row (suc r) most few = omega (arith, few)

      some_words : (r w : ℕ) → 1 ≤ r → 1 ≤ nodes (rows_in (map count_of db)) q + r * (r * (2 * w + 2) + w + 1)
      some_words r w le = let more = mul-le 1 1 r (r * (2 * w + 2) + w + 1) le (omega arith) in omega (arith, more)
    certain_fails k fault.Memory w = tt
