-- Rows with some of their cells.
use Rattle.std.proofs.Common.{◌≡◌, ℕ, ◌<◌, Bool, true, false, List, [], ◌∷◌, map, length, cond, get_or, refl, ap, sym, subst, ◌∙◌}
use Rattle.std.{specs.Prelude.{IsTrue, All, option_map}, specs.List.{filter, cons_option}, proofs.lemmas.List.length-map}
use Rattle.std.proofs.lemmas.Option.{slice_get-get_or, slice_get-map}
use Rattle.std.proofs.lemmas.List.Elements.{All-nil, All-cons, All-head, All-tail, All-map, All-weaker, All-get_or}
use Rattle.ct_word.{specs.declared.values.Term.Term, specs.declared.values.CRow.CRow, specs.Value.{World, cell_at, tuple_at}, specs.Change.PlainRow}
use Rattle.ct_word.{specs.Condition.holds_at, specs.WellFormed.is_place_of, specs.Stands.HasNoColumn, specs.Reading.{term_at, condition_at, plain_crow}}
use Rattle.ct_query.specs.Patterns.{picked}
use Rattle.ct_condition.specs.Terms.{TermsFrom}
use Rattle.ct_operators.{specs.Terms.{RowFrom, RowsFrom}, specs.Tables.{cells_of, value_of_rows, IsRow}, specs.Projection.picked_row}
use Rattle.ct_operators.proofs.Selecting.{cell_of_tuple}
use Rattle.ct_word.specs.declared.kinds.Class.TheVariants as class

picked_cells : (ws : List ℕ) (cells ks : List ℕ) → All (λ k. k < length cells) ks → map (term_at ws) (map (λ k. get_or cells k 0) ks) ≡ picked ks (map (term_at ws) cells)
picked_cells ws cells [] below = refl
picked_cells ws cells (k ∷ ks) below =
    (λ i. term_at ws (get_or cells k 0) ∷ picked_cells ws cells ks (All-tail (λ k. k < length cells) k ks below) i)
    ∙ sym (ap (λ o. cons_option o (picked ks (map (term_at ws) cells))) (slice_get-map (term_at ws) cells k ∙ ap (option_map (term_at ws)) (slice_get-get_or cells k 0 (All-head (λ k. k < length cells) k ks below))))

picked_tuple : (ws : List ℕ) (v : World) (cells ks : List ℕ) → All (λ k. k < length cells) ks
    → tuple_at v (map (term_at ws) (map (λ k. get_or cells k 0) ks)) ≡ map (cell_at (tuple_at v (map (term_at ws) cells))) ks
picked_tuple ws v cells [] below = refl
picked_tuple ws v cells (k ∷ ks) below =
    λ i. sym (cell_of_tuple ws v cells k (All-head (λ k. k < length cells) k ks below)) i
    ∷ picked_tuple ws v cells ks (All-tail (λ k. k < length cells) k ks below) i

module _ (ws : List ℕ) (width : ℕ) (ks : List ℕ) (below : All (λ k. k < width) ks) where
  within : (r : CRow) → IsRow ws width r → All (λ k. k < length r.cells) ks
  within r is = subst (λ n. All (λ k. k < n) ks) (sym is.width_is) below

  -- the positions are within each row
  pub all_within : (rs : List CRow) → All (IsRow ws width) rs → All (λ r. All (λ k. k < length r.cells) ks) rs
  all_within rs each = All-weaker (IsRow ws width) (λ r. All (λ k. k < length r.cells) ks) within rs each

  -- what holds of a row's places holds of those that are picked
  picked_all : (P : ℕ → Type 0) (r : CRow) → IsRow ws width r → All P (r.cond ∷ r.cells) → All P (r.cond ∷ map (λ k. get_or r.cells k 0) ks)
  picked_all P r is all =
      All-cons P r.cond (map (λ k. get_or r.cells k 0) ks) (All-head P r.cond r.cells all)
      (All-map P (λ k. get_or r.cells k 0) ks
      (All-weaker (λ k. k < length r.cells) (λ k. P (get_or r.cells k 0)) (λ k lt. All-get_or P r.cells k 0 lt (All-tail P r.cond r.cells all)) ks (within r is)))

  pub picked_from : (source : Term → Type 0) (rs : List CRow) → All (IsRow ws width) rs → RowsFrom ws rs source → RowsFrom ws (map (picked_row ks) rs) source
  picked_from source [] each from = All-nil (RowFrom ws source)
  picked_from source (r ∷ rs) each from =
      All-cons (RowFrom ws source) (picked_row ks r) (map (picked_row ks) rs)
      (picked_all (λ p. TermsFrom ws p source) r (All-head (IsRow ws width) r rs each) (All-head (RowFrom ws source) r rs from))
      (picked_from source rs (All-tail (IsRow ws width) r rs each) (All-tail (RowFrom ws source) r rs from))

  picked_is_row : (r : CRow) → IsRow ws width r → IsRow ws (length ks) (picked_row ks r)
  picked_is_row r is = record {
    terms = All-map (λ p. IsTrue (is_place_of ws class.Term p)) (λ k. get_or r.cells k 0) ks
        (All-weaker (λ k. k < length r.cells) (λ k. IsTrue (is_place_of ws class.Term (get_or r.cells k 0)))
        (λ k lt. All-get_or (λ p. IsTrue (is_place_of ws class.Term p)) r.cells k 0 lt is.terms) ks (within r is));
    condition = is.condition;
    width_is = length-map ks (λ k. get_or r.cells k 0);
    plain = picked_all (HasNoColumn ws) r is is.plain;
  }

  pub picked_rows : (rs : List CRow) → All (IsRow ws width) rs → All (IsRow ws (length ks)) (map (picked_row ks) rs)
  picked_rows rs each = All-map (IsRow ws (length ks)) (picked_row ks) rs (All-weaker (IsRow ws width) (λ r. IsRow ws (length ks) (picked_row ks r)) picked_is_row rs each)

  pub cells_picked : (rs : List CRow) → All (IsRow ws width) rs → cells_of ws (map (picked_row ks) rs) ≡ map (picked ks) (cells_of ws rs)
  cells_picked [] each = refl
  cells_picked (r ∷ rs) each =
      λ i. picked_cells ws r.cells ks (within r (All-head (IsRow ws width) r rs each)) i ∷ cells_picked rs (All-tail (IsRow ws width) r rs each) i

  pub value_picked : (v : World) (rs : List CRow) → All (IsRow ws width) rs → value_of_rows ws v (map (picked_row ks) rs) ≡ map (λ t. map (cell_at t) ks) (value_of_rows ws v rs)
  value_picked v [] each = refl
  value_picked v (r ∷ rs) each = by_case (holds_at v (condition_at ws r.cond)) (value_picked v rs (All-tail (IsRow ws width) r rs each)) where
    by_case : (b : Bool) → value_of_rows ws v (map (picked_row ks) rs) ≡ map (λ t. map (cell_at t) ks) (value_of_rows ws v rs)
        → map (λ (x : PlainRow). tuple_at v x.cells) (cond b (plain_crow ws (picked_row ks r) ∷ filter (λ x. holds_at v x.condition) (map (plain_crow ws) (map (picked_row ks) rs))) (filter (λ x. holds_at v x.condition) (map (plain_crow ws) (map (picked_row ks) rs))))
        ≡ map (λ t. map (cell_at t) ks) (map (λ (x : PlainRow). tuple_at v x.cells) (cond b (plain_crow ws r ∷ filter (λ x. holds_at v x.condition) (map (plain_crow ws) rs)) (filter (λ x. holds_at v x.condition) (map (plain_crow ws) rs))))
    by_case true later = λ i. picked_tuple ws v r.cells ks (within r (All-head (IsRow ws width) r rs each)) i ∷ later i
    by_case false later = later
