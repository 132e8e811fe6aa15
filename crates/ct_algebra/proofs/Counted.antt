-- An answer has no more rows than its query's bound says.
use Rattle.std.{proofs.Common.{◌≡◌, ℕ, ◌+◌, ◌*◌, ◌≤◌, Bool, true, false, List, [], ◌∷◌, ◌++◌, length, map, refl, sym, ◌∙◌, arith}, specs.Prelude.if◌then◌else◌}
use Rattle.std.proofs.lemmas.List.{length-append, length-map}
use Rattle.ct_word.{specs.declared.values.CRow.CRow, specs.Value.same_text, specs.Reading.term_at, specs.Sublist.{IsSublist, ended, left_out, taken}}
use Rattle.ct_query.{specs.Plain.{PlainQuery, Table, Select, Project, Product, Union, Except, Intersect}, specs.Patterns.{Patterns, picked, query_pattern}}
use Rattle.ct_query.{specs.Size.{rows_in, row_bound}, specs.Rows.joins}
use Rattle.ct_operators.{specs.declared.table.CTable.CTable, specs.Tables.cells_of}
use Rattle.ct_table.{specs.Counting.count_of, specs.Denotes.TableView}
use Rattle.ct_algebra.{specs.Operands.cells_in, specs.Evaluates.Evaluates, specs.Words.most_rows}

-- a part is no longer than the whole
pub part_length : {A : Type 0} {xs ys : List A} → IsSublist xs ys → length xs ≤ length ys
part_length ended = omega arith
part_length (left_out p) = omega (arith, part_length p)
part_length (taken p) = omega (arith, part_length p)

joins_length : {A : Type 0} (xs ys : List (List A)) → length (joins xs ys) ≡ length xs * length ys
joins_length [] ys = omega arith
joins_length (x ∷ xs) ys =
    length-append (map (λ y. x ++ y) ys) (joins xs ys) ∙ omega (arith, length-map ys (λ y. x ++ y), joins_length xs ys)

-- a query's pattern is as long as its bound, where the tables' are as long as their counts
module _ (p : Patterns) (counts : List ℕ → ℕ) (each : (t : List ℕ) → length (p t) ≡ counts t) where
  pattern_length : (q : PlainQuery) → length (query_pattern p q) ≡ row_bound counts q
  pattern_length (Table t) = each t
  pattern_length (Select c q) = pattern_length q
  pattern_length (Project ks q) = length-map (query_pattern p q) (picked ks) ∙ pattern_length q
  pattern_length (Product a b) =
      joins_length (query_pattern p a) (query_pattern p b) ∙ (λ i. pattern_length a i * pattern_length b i)
  pattern_length (Union a b) =
      length-append (query_pattern p a) (query_pattern p b) ∙ (λ i. pattern_length a i + pattern_length b i)
  pattern_length (Except a b) = pattern_length a
  pattern_length (Intersect a b) = pattern_length a

-- a table has as many cell lists as rows
cells_counted : (ws : List ℕ) (db : List TableView) (t : List ℕ) → length (cells_in ws db t) ≡ rows_in (map count_of db) t
cells_counted ws [] t = refl
cells_counted ws (x ∷ db) t = by_test (same_text x.name t) (cells_counted ws db t) where
  by_test : (b : Bool) → length (cells_in ws db t) ≡ rows_in (map count_of db) t
      → length (if b then cells_of ws x.rows else cells_in ws db t) ≡ (if b then length x.rows else rows_in (map count_of db) t)
  by_test true rest = length-map x.rows _
  by_test false rest = rest

pub rows_within : (old now : List ℕ) (db : List TableView) (q : PlainQuery) (t : CTable) → Evaluates old now db q t → length t.rows ≤ most_rows db q
rows_within old now db q t s =
    omega (
      arith,
      sym (length-map t.rows (λ (r : CRow). map (term_at now) r.cells)),
      part_length s.part,
      pattern_length (cells_in old db) (rows_in (map count_of db)) (cells_counted old db) q,
    )

-- rows of pairs are no more than the pairs
pub pairs_counted : (now new : List ℕ) (ls rs out : List CRow) → IsSublist (cells_of new out) (joins (cells_of now ls) (cells_of now rs)) → length out ≤ length ls * length rs
pairs_counted now new ls rs out part =
    let cells : length (cells_of new out) ≡ length out = length-map out (λ (r : CRow). map (term_at new) r.cells) in
    let both : length (joins (cells_of now ls) (cells_of now rs)) ≡ length ls * length rs =
    joins_length (cells_of now ls) (cells_of now rs) ∙ (λ i. length-map ls (λ (r : CRow). map (term_at now) r.cells) i * length-map rs (λ (r : CRow). map (term_at now) r.cells) i) in
    omega (arith, cells, both, part_length part)
