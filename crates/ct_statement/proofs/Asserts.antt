-- The condition of an assertion over a query or a key: it holds exactly where the assertion keeps the database.
use Rattle.std.{proofs.Common.{◌≡◌, ◌≤◌, ◌<◌, ◌+◌, ◌*◌, ℕ, Bool, Option, true, false, List, [], ◌∷◌, length, Some, None, refl, ap, sym, subst, ◌∙◌, arith}, specs.List.Contains}
use Rattle.std.{specs.Prelude.{IfSome, IsSome, is_some}, proofs.lemmas.Bool.false≢true, proofs.lemmas.Nat.mul-le, proofs.lemmas.Option.IfSome_then, proofs.lemmas.List.Elements.recursion_from_All}
use Rattle.std.specs.Option.{option_map_or}
use Rattle.ct_word.{specs.declared.values.CRow.CRow, specs.Change.PlainCommit, specs.Value.World}
use Rattle.ct_query.{specs.Assertions.{as_wanted, is_key}, specs.Database.{Database, SameSet, tuples_of}, specs.Rows.rows, specs.Step.only_if, specs.Worlds.world}
use Rattle.ct_query.{specs.Plain.{PlainQuery, PlainAction}, specs.Fits.{columns_in, count_of}, specs.Patterns.count, specs.Schema.schema, proofs.Sets.same_set_itself}
use Rattle.ct_condition.specs.Terms.{TermsFrom}
use Rattle.ct_operators.{specs.Building.HoldsWhere, specs.Tables.{AreRows, value_of_rows}, specs.Terms.{RowsFrom, TermOfRows}}
use Rattle.ct_operators.proofs.Reaching.{foremost, from_rows, none_from, none_of_rows, plain_rows}
use Rattle.ct_constraint.proofs.Laws.{wanted_of_set, key_of_set}
use Rattle.ct_table.{specs.Denotes.{TableView, Denotes, IsKept, IsTermFor, find_table}, proofs.Denoting.{found_all, found_name}}
use Rattle.ct_table.proofs.ByTables.{answered_by_tables, tables_counted}
use Rattle.ct_table.specs.Counting.{rows_of_found}
use Rattle.ct_algebra.{specs.Evaluates.limit, proofs.Found.{no_columns, stands_for}}
use Rattle.ct_statement.{specs.Asking.{AnswersQuery, terms_of_query}, specs.Making.widths_in, specs.Sources.AreAsserted, specs.Unmet.IsPast, proofs.TermSources.{asked_source, table_source}}
use Rattle.ct_query.specs.Plain as plain
use Rattle.ct_query.specs.declared.action.Read.TheVariants as read

-- a database is kept where the test passes
kept_where : (b : Bool) (w : Database) → is_some (only_if b w) ≡ b
kept_where true w = refl
kept_where false w = refl

-- the rows of a table, if it is there
counted_as : (o : Option TableView) → option_map_or (λ (t : TableView). length t.rows) o 0 ≡ rows_of_found o
counted_as None = refl
counted_as (Some t) = refl

module _ (h : List PlainCommit) (before : List PlainAction) where
  -- rows that answer a query over the words before, and a condition over those now
  module _ (words new : List ℕ) (global : ℕ) (q : PlainQuery) (n : ℕ) (rs : List CRow) (t : AnswersQuery words global h before q n rs) where
    pub query_asserted : (wanted : Bool) (cond : ℕ) (out : List CRow) → out ≡ record { cells = []; cond = cond } ∷ [] → HoldsWhere new cond (λ v. as_wanted wanted (value_of_rows words v rs))
        → TermsFrom new cond (TermOfRows words rs) → AreAsserted new h before (plain.AssertQuery wanted q) out
    query_asserted wanted cond out one holds from = record {
      cond = cond;
      one = one;
      place = holds.class;
      plain = none_from new cond (TermOfRows words rs) (none_of_rows words rs (plain_rows words n rs t.are.each)) from;
      holds = λ v. IfSome_then (world v h before) (t.tuples v)
          (λ w same. holds.holds v ∙ wanted_of_set (value_of_rows words v rs) (rows v q w) same wanted ∙ sym (kept_where (as_wanted wanted (rows v q w)) w));
      from = λ u below. asked_source h before (plain.AssertQuery wanted q) q refl refl read.Worlds u (from_rows words rs (Contains (terms_of_query h before q)) t.from u (from u below));
    }

  -- a name without a table is none of the schema's
  pub is_there : (words : List ℕ) (db : List TableView) → Denotes words h before db → (name : List ℕ) → find_table db name ≡ None → is_some (columns_in (schema h before).tables name) ≡ false
  is_there words db d name lacks = ap (λ s. is_some (columns_in s name)) (sym d.worth.headings) ∙ ap (λ o. is_some o) (no_columns name db lacks)

  -- so a table that the schema has is there
  pub found_there : (words : List ℕ) (db : List TableView) → Denotes words h before db → (name : List ℕ) → IsSome (columns_in (schema h before).tables name) → IsSome (find_table db name)
  found_there words db d name there = by (find_table db name) refl where
    by : (o : Option TableView) → find_table db name ≡ o → IsSome o
    by (Some t) e = refl
    by None e = absurd (false≢true (sym (is_there words db d name e) ∙ there))

  -- a table with more pairs of rows than a key goes over
  pub key_too_large : (words : List ℕ) (db : List TableView) → Denotes words h before db → (name columns : List ℕ)
      → limit < rows_of_found (find_table db name) * rows_of_found (find_table db name) → IsPast h before (plain.Act (plain.AssertKey name columns))
  key_too_large words db d name columns many =
      let few = subst (λ n. n ≤ count h before name) (counted_as (find_table db name)) (tables_counted words h before db d.worth name) in
      record {
        asked = count h before name * count h before name;
        evaluates = refl;
        past = omega (arith, mul-le (rows_of_found (find_table db name)) (rows_of_found (find_table db name)) (count h before name) (count h before name) few few, many);
      }

  -- a table with a name, over the words before
  module _ (words : List ℕ) (db : List TableView) (d : Denotes words h before db) (name : List ℕ) (t : TableView) (found : find_table db name ≡ Some t) where
    pub table_rows : AreRows words (length t.columns) t.rows
    table_rows = (found_all (IsKept words h before) name t db (recursion_from_All (IsKept words h before) db d.worth.kept) found).rows

    pub table_width : widths_in (schema h before).tables name ≡ length t.columns
    table_width = ap (λ s. widths_in s name) (sym d.worth.headings) ∙ ap count_of (stands_for words name t db found).columns

    pub table_few : length t.rows ≤ count h before name
    table_few = subst (λ o. option_map_or (λ (x : TableView). length x.rows) o 0 ≤ count h before name) found (tables_counted words h before db d.worth name)

    -- its rows, or pairs of them
    pub table_pairs : length t.rows * length t.rows ≤ count h before name * count h before name
    table_pairs = mul-le (length t.rows) (length t.rows) (count h before name) (count h before name) table_few table_few

    -- the words of a condition on all pairs of its rows
    pub key_words : length t.rows * length t.rows * (2 * length t.columns + 3) ≤ count h before name * count h before name * (2 * widths_in (schema h before).tables name + 3)
    key_words =
        subst (λ k. length t.rows * length t.rows * (2 * k + 3) ≤ count h before name * count h before name * (2 * widths_in (schema h before).tables name + 3)) table_width
        (mul-le (length t.rows * length t.rows) (2 * widths_in (schema h before).tables name + 3) (count h before name * count h before name) (2 * widths_in (schema h before).tables name + 3) table_pairs (omega arith))

    tuples_are : (v : World) → IfSome (world v h before) (λ w. SameSet (value_of_rows words v t.rows) (tuples_of w name))
    tuples_are v = answered_by_tables words h before db d.worth v (plain.Table name) (value_of_rows words v t.rows)
        (subst (SameSet (value_of_rows words v t.rows)) (sym ((stands_for words name t db found).tuples v)) (same_set_itself (value_of_rows words v t.rows)))

    rows_from : RowsFrom words t.rows (IsTermFor h before (read.Table name))
    rows_from = subst (λ k. RowsFrom words t.rows (IsTermFor h before (read.Table k))) (found_name name t db found)
        (found_all (λ (x : TableView). RowsFrom words x.rows (IsTermFor h before (read.Table x.name))) name t db
        (recursion_from_All (λ (x : TableView). RowsFrom words x.rows (IsTermFor h before (read.Table x.name))) db d.from) found)

    pub key_asserted : (new : List ℕ) (columns : List ℕ) (cond : ℕ) (out : List CRow) → out ≡ record { cells = []; cond = cond } ∷ [] → HoldsWhere new cond (λ v. is_key columns (value_of_rows words v t.rows))
        → TermsFrom new cond (TermOfRows words t.rows) → AreAsserted new h before (plain.AssertKey name columns) out
    key_asserted new columns cond out one holds from = record {
      cond = cond;
      one = one;
      place = holds.class;
      plain = none_from new cond (TermOfRows words t.rows) (none_of_rows words t.rows (plain_rows words (length t.columns) t.rows table_rows.each)) from;
      holds = λ v. IfSome_then (world v h before) (tuples_are v)
          (λ w same. holds.holds v ∙ key_of_set (value_of_rows words v t.rows) (tuples_of w name) same columns ∙ sym (kept_where (is_key columns (tuples_of w name)) w));
      from = λ u below.
          table_source h before (plain.AssertKey name columns) read.Worlds (read.Table name) u (foremost (read.Table name) (read.Worlds ∷ []))
          (from_rows words t.rows (IsTermFor h before (read.Table name)) rows_from u (from u below));
    }
