-- A conditional table and its printed form.
use Rattle.std.proofs.Common.{◌≡◌, ℕ, zero, suc, ◌+◌, ◌<◌, Bool, true, false, List, [], ◌∷◌, ◌++◌, length, map, take, get_or, cond, refl, ap, sym, subst, ◌∙◌, arith}
use Rattle.std.{specs.Prelude.{IsTrue, All}, specs.List.{AllZip, IsDistinct, list_all, filter}, proofs.lemmas.Bool.{and_parts, and_from}}
use Rattle.std.proofs.lemmas.List.Elements.{All-head, All-tail, All-weaker}
use Rattle.ct_word.{specs.declared.values.Term.Term, specs.declared.values.CRow.CRow, specs.Value.{World, same_cells, tuple_at}, specs.Change.PlainRow}
use Rattle.ct_word.{specs.Condition.{SameTruth, holds_at}, specs.Reading.{term_at, condition_at, plain_crow}, specs.WellFormed.is_place_of}
use Rattle.ct_query.specs.Step.{shown_rows}
use Rattle.ct_rewrite.{specs.declared.answer.Node.Node, specs.declared.answer.AnswerRow.AnswerRow, specs.Nodes.{node_condition, IsOrdered, is_position}}
use Rattle.ct_rewrite.specs.History.{plain_row}
use Rattle.ct_operators.specs.Tables.{cells_of, value_of_rows, IsRow, AreRows}
use Rattle.ct_statement.specs.Printed.{printed_row, printed_rows, IsPrinted}
use Rattle.ct_word.specs.declared.kinds.Class.TheVariants as class

module _ (words : List ℕ) where
  printed_more : (rows : List CRow) (ks : List ℕ) (i : ℕ) (r : CRow) → i < length rows → length ks ≡ length rows → r ≡ get_or rows i r
      → printed_rows words (take (suc i) rows) ks ≡ printed_rows words (take i rows) ks ++ printed_row words r (get_or ks i 0) ∷ []
  printed_more [] ks i r lt long e = absurd (omega arith)
  printed_more (x ∷ rows) [] i r lt long e = absurd (omega (arith, long))
  printed_more (x ∷ rows) (k ∷ ks) zero r lt long e = λ j. printed_row words (sym e j) k ∷ []
  printed_more (x ∷ rows) (k ∷ ks) (suc i) r lt long e = ap (λ l. printed_row words x k ∷ l) (printed_more rows ks i r (omega arith) (omega (arith, long)) e)

  -- one row more is printed
  pub printed_pushed : (rows : List CRow) (ks : List ℕ) (i : ℕ) (r : CRow) (out more : List AnswerRow) (places : List ℕ) (terms : List Term)
      → i < length rows → length ks ≡ length rows → r ≡ get_or rows i r → out ≡ printed_rows words (take i rows) ks → places ≡ r.cells → terms ≡ map (term_at words) places
      → more ≡ out ++ record { cells = terms; cond = get_or ks i 0 } ∷ [] → more ≡ printed_rows words (take (i + 1) rows) ks
  printed_pushed rows ks i r out more places terms lt long e so_far p t m =
      let cells : terms ≡ map (term_at words) r.cells = t ∙ ap (map (term_at words)) p in
      let next : suc i ≡ i + 1 = omega arith in
      m ∙ (λ j. so_far j ++ record { cells = cells j; cond = get_or ks i 0 } ∷ []) ∙ sym (printed_more rows ks i r lt long e)
      ∙ ap (λ n. printed_rows words (take n rows) ks) next

  -- the cells of a table's rows are terms
  pub terms_all : (width : ℕ) (rows : List CRow) → AreRows words width rows → All (λ r. All (λ p. IsTrue (is_place_of words class.Term p)) r.cells) rows
  terms_all width rows are = All-weaker (IsRow words width) _ (λ r is. is.terms) rows are.each

  conditions_of : (width : ℕ) (rows : List CRow) → All (IsRow words width) rows → IsTrue (list_all (is_place_of words class.Cond) (map (λ r. r.cond) rows))
  conditions_of width [] all = refl
  conditions_of width (r ∷ rows) all =
      and_from _ _ (All-head (IsRow words width) r rows all).condition (conditions_of width rows (All-tail (IsRow words width) r rows all))

  -- the places of the global condition and of the rows' are places of conditions
  pub are_conditions : (under : ℕ) → IsTrue (is_place_of words class.Cond under) → (width : ℕ) (rows : List CRow) → AreRows words width rows
      → IsTrue (list_all (is_place_of words class.Cond) (under ∷ map (λ r. r.cond) rows))
  are_conditions under place width rows are = and_from _ _ place (conditions_of width rows are.each)

-- the tuples of one row more
pub shown_more : (v : World) (x : PlainRow) (xs : List PlainRow) → shown_rows v (x ∷ xs) ≡ cond (holds_at v x.condition) (tuple_at v x.cells ∷ shown_rows v xs) (shown_rows v xs)
shown_more v x xs = by_test (holds_at v x.condition) where
  by_test : (b : Bool) → map (λ (r : PlainRow). tuple_at v r.cells) (cond b (x ∷ filter (λ r. holds_at v r.condition) xs) (filter (λ r. holds_at v r.condition) xs))
      ≡ cond b (tuple_at v x.cells ∷ shown_rows v xs) (shown_rows v xs)
  by_test true = refl
  by_test false = refl

module _ (words : List ℕ) (nodes : List Node) where
  abbrev Printed : ℕ → ℕ → Type 0
  Printed k place = SameTruth (node_condition nodes k) (condition_at words place)

  as_many : (rows : List CRow) (ks : List ℕ) → AllZip Printed ks (map (λ r. r.cond) rows) → length ks ≡ length rows
  as_many [] [] same = refl
  as_many (r ∷ rows) (k ∷ ks) same = ap suc (as_many rows ks same.1)
  as_many _ _ same = absurd same

  tuples_stay : (v : World) (rows : List CRow) (ks : List ℕ) → AllZip Printed ks (map (λ r. r.cond) rows)
      → shown_rows v (map (plain_row nodes) (printed_rows words rows ks)) ≡ value_of_rows words v rows
  tuples_stay v [] ks same = refl
  tuples_stay v (r ∷ rows) [] same = absurd same
  tuples_stay v (r ∷ rows) (k ∷ ks) same =
      let rest = tuples_stay v rows ks same.1 in
      let tuple = tuple_at v (map (term_at words) r.cells) in
      shown_more v (plain_row nodes (printed_row words r k)) (map (plain_row nodes) (printed_rows words rows ks))
      ∙ (λ j. cond (same.0 v [] j) (tuple ∷ rest j) (rest j))
      ∙ sym (shown_more v (plain_crow words r) (map (plain_crow words) rows))

  cells_stay : (rows : List CRow) (ks : List ℕ) → AllZip Printed ks (map (λ r. r.cond) rows) → map (λ r. r.cells) (printed_rows words rows ks) ≡ cells_of words rows
  cells_stay [] ks same = refl
  cells_stay (r ∷ rows) [] same = absurd same
  cells_stay (r ∷ rows) (k ∷ ks) same = ap (λ l. map (term_at words) r.cells ∷ l) (cells_stay rows ks same.1)

  placed_stay : (rows : List CRow) (ks : List ℕ) → IsTrue (list_all (is_position nodes) ks) → IsTrue (list_all (λ r. is_position nodes r.cond) (printed_rows words rows ks))
  placed_stay [] ks placed = refl
  placed_stay (r ∷ rows) [] placed = refl
  placed_stay (r ∷ rows) (k ∷ ks) placed = let p = and_parts _ _ placed in and_from _ _ p.0 (placed_stay rows ks p.1)

  module _ (under : ℕ) (rows : List CRow) (roots slice places : List ℕ) (global : ℕ) (ks : List ℕ) (kept : AllZip Printed roots places)
      (asked : places ≡ under ∷ map (λ r. r.cond) rows) (seen : slice ≡ roots) (first : slice ≡ global ∷ ks) where
    same : AllZip Printed (global ∷ ks) (under ∷ map (λ r. r.cond) rows)
    same = subst (λ ps. AllZip Printed (global ∷ ks) ps) asked (subst (λ xs. AllZip Printed xs places) (sym seen ∙ first) kept)

    -- there is a position for each row
    pub positions_long : length ks ≡ length rows
    positions_long = as_many rows ks same.1

    -- the rows, each under the position of its condition, and the position of the global condition are an answer that prints the
    -- table
    pub answer_prints : (columns named : List (List ℕ)) (width : ℕ) (printed : List AnswerRow) → AreRows words width rows
        → IsTrue (list_all (is_position nodes) roots) → IsOrdered nodes → named ≡ columns → printed ≡ printed_rows words rows ks
        → IsPrinted words columns under rows (record { columns = named; nodes = nodes; rows = printed; global = global })
    answer_prints columns named width printed are placed ordered e is =
        let p = and_parts _ _ (subst (λ xs. IsTrue (list_all (is_position nodes) xs)) (sym seen ∙ first) placed) in
        let cells = cells_stay rows ks same.1 in
        subst (λ rs. IsPrinted words columns under rows (record { columns = named; nodes = nodes; rows = rs; global = global })) (sym is)
        (record {
          named = e;
          formed = record {
            ordered = ordered;
            global_placed = p.0;
            rows_placed = placed_stay rows ks p.1;
            distinct = subst (IsDistinct same_cells) (sym cells) are.distinct;
          };
          where_holds = λ v. same.0 v [];
          tuples = λ v. tuples_stay v rows ks same.1;
          cells = cells;
        })
