-- Pairs of rows, gathered with some of their cells.
use Rattle.std.proofs.Common.{◌≡◌, ℕ, ◌<◌, ◌≤◌, List, [], ◌∷◌, ◌++◌, map, length, refl, ap, sym, subst, ◌∙◌, arith}
use Rattle.std.specs.Prelude.{All}
use Rattle.std.proofs.lemmas.List.{append-nil, length-map}
use Rattle.std.proofs.lemmas.List.Elements.{All-cons, All-head, All-nil, All-weaker}
use Rattle.ct_word.{specs.declared.values.Value.Value, specs.declared.values.Term.Term, specs.declared.values.CRow.CRow, specs.WellFormed.IsWellFormed, specs.Reading.term_at}
use Rattle.ct_word.{specs.Value.{World, cell_at, same_cells}, specs.Sublist.IsSublist, specs.Condition.Condition, proofs.Prefixes.prefix_of_prefix}
use Rattle.ct_query.{specs.Database.SameSet, specs.Patterns.picked, proofs.Sublists.{sublist_of_sublist, sublist-map}}
use Rattle.ct_operators.{specs.Tables.{cells_of, value_of_rows, IsRow}, specs.Terms.{TermOfRows, RowsFrom}, specs.Projection.picked_row, specs.Merging.{IsGathered}}
use Rattle.ct_operators.{proofs.Reaching.{rows_later, rows_wider, from_rows}, proofs.Growing.{is_row_grows, cells_grow, value_grows}}
use Rattle.ct_operators.{proofs.Projecting.{cells_picked, value_picked, picked_from, picked_rows}, proofs.Firsts.part_of_firsts, proofs.Gathered.gathered_none}
use Rattle.ct_algebra.{specs.Joining.{Makes, MakesPairs}, specs.Picking.{HasCells, PicksPairs}, proofs.Making.{makes_none, worth_of, cells_joined}, proofs.Counted.part_length}
use mathlib.Core.List.{IsPrefix}

-- the same rows, as words are added
pub makes_later : (old now new : List ℕ) (width : ℕ) (cells : List (List Term)) (worth : World → List (List Value)) (source : Term → Type 0) (out : List CRow)
    → IsWellFormed now → IsPrefix now new → Makes old now width cells worth source out → Makes old new width cells worth source out
makes_later old now new width cells worth source out formed longer s = record {
  grown = prefix_of_prefix old now new s.grown longer;
  each = All-weaker (IsRow now width) (IsRow new width) (is_row_grows now new longer formed width) out s.each;
  possible = s.possible;
  worth_is = λ v. value_grows now new longer v width out s.each ∙ s.worth_is v;
  part = subst (λ cs. IsSublist cs cells) (sym (cells_grow now new longer width out s.each)) s.part;
  from = rows_later now new longer formed width source out s.each s.from;
}

-- rows of a width have a cell at each position within it
pub have_cells : (ws : List ℕ) (width : ℕ) (ks : List ℕ) → All (λ k. k < width) ks → (rs : List CRow) → All (IsRow ws width) rs → All (HasCells ws ks) rs
have_cells ws width ks below = All-weaker (IsRow ws width) (HasCells ws ks)
    (λ r is. (record { terms = is.terms; condition = is.condition; width_is = refl; plain = is.plain }, subst (λ n. All (λ k. k < n) ks) (sym is.width_is) below))

-- such a row with these cells is a row
pub picked_is : (ws ks : List ℕ) (r : CRow) → HasCells ws ks r → IsRow ws (length ks) (picked_row ks r)
picked_is ws ks r has =
    All-head (IsRow ws (length ks)) (picked_row ks r) [] (picked_rows ws (length r.cells) ks has.1 (r ∷ []) (All-cons (IsRow ws (length r.cells)) r [] has.0 (All-nil _)))

pub has_later : (ws xs ks : List ℕ) (r : CRow) → IsPrefix ws xs → IsWellFormed ws → HasCells ws ks r → HasCells xs ks r
has_later ws xs ks r longer formed has = (is_row_grows ws xs longer formed (length r.cells) r has.0, has.1)

-- a row has no more pairs than there are rows
pub few_pairs : (old now : List ℕ) (width : ℕ) (c : Condition) (l : CRow) (rs : List CRow) (source : Term → Type 0) (out : List CRow) → MakesPairs old now width c (l ∷ []) rs source out → length out ≤ length rs
few_pairs old now width c l rs source out s =
    let one = map (term_at old) l.cells in
    let all : length (cells_joined old c (l ∷ []) rs) ≡ length rs =
    ap (λ xs. length xs) (append-nil (map (λ r. one ++ r) (cells_of old rs))) ∙ length-map (cells_of old rs) (λ r. one ++ r) ∙ length-map rs _ in
    omega (arith, part_length s.part, length-map out (λ (r : CRow). map (term_at now) r.cells), all)

-- no pairs yet
pub picks_none : (old : List ℕ) (width : ℕ) (ks : List ℕ) (c : Condition) (rs : List CRow) (source : Term → Type 0) → PicksPairs old old width ks c [] rs source []
picks_none old width ks c rs source = record { done = []; made = makes_none old width _ _ source (λ v. refl); gathered = gathered_none old (length ks) }

module _ (old new : List ℕ) (width : ℕ) (ks : List ℕ) (below : All (λ k. k < width) ks) (c : Condition) (ls rs : List CRow) (source : Term → Type 0) (gathered out : List CRow)
    (s : PicksPairs old new width ks c ls rs source gathered) (g : IsGathered new (length ks) (map (picked_row ks) s.done) out) where
  pub picked_values : (v : World) → SameSet (value_of_rows new v out) (map (λ u. map (cell_at u) ks) (worth_of old c ls rs v))
  picked_values v =
      subst (SameSet (value_of_rows new v out)) (value_picked new width ks below v s.done s.made.each ∙ ap (map (λ u. map (cell_at u) ks)) (s.made.worth_is v)) (g.values v)

  pub picked_part : IsSublist (cells_of new out) (map (picked ks) (cells_joined old c ls rs))
  picked_part =
      sublist_of_sublist _ _ _ (part_of_firsts same_cells _ _ g.order)
      (subst (λ k. IsSublist k (map (picked ks) (cells_joined old c ls rs))) (sym (cells_picked new width ks below s.done s.made.each)) (sublist-map (picked ks) _ _ s.made.part))

  pub picked_terms : RowsFrom new out source
  picked_terms =
      rows_wider new (TermOfRows new (map (picked_row ks) s.done)) source
      (from_rows new (map (picked_row ks) s.done) source (picked_from new width ks below source s.done s.made.each s.made.from)) out g.from
