-- Rows of the log: one more cell, one more row.
use Rattle.std.proofs.Common.{◌≡◌, ◌<◌, ◌+◌, ℕ, List, [], ◌∷◌, ◌++◌, Some, map, take, length, get_or, refl, ap, sym, subst, ◌∙◌}
use Rattle.std.{proofs.lemmas.List.map_more, proofs.lemmas.List.Elements.{All-head, All-tail, All-get_or, All-weaker}, specs.Prelude.{IsTrue, All, slice_get}}
use Rattle.ct_word.{specs.declared.values.CRow.CRow, specs.declared.values.Term.Term, specs.Stands.StandsAt, specs.WellFormed.is_place_of}
use Rattle.ct_word.specs.Reading.{IsRow, IsRowList, as_cond, as_row, as_cond_row, as_row_list, by_kind, meanings, condition_at, term_at, plain_crow}
use Rattle.ct_word.proofs.Prefixes.{prefix_of_prefix, stands_in_prefix, term_in_prefix, condition_in_prefix, place_in_prefix, place_within}
use Rattle.ct_history.{specs.Places.{cells_at, rows_at}, specs.Rows.{AreTerms, IsNoRow, IsRowOf, row_under}, proofs.Lists.meaning_kept}
use mathlib.Core.List.{IsPrefix}
use Rattle.ct_word.specs.declared.kinds.Class.TheVariants as class
use Rattle.ct_word.specs.declared.kinds.Kind.TheVariants as kind

-- places of terms stand for the same terms in more words
terms_grow : (ws xs : List ℕ) → IsPrefix ws xs → (ps : List ℕ) → AreTerms ws ps → map (term_at xs) ps ≡ map (term_at ws) ps
terms_grow ws xs grown [] all = refl
terms_grow ws xs grown (p ∷ ps) all =
    λ i. term_in_prefix ws xs p grown (place_within ws class.Term p (All-head (λ q. IsTrue (is_place_of ws class.Term q)) p ps all)) i
    ∷ terms_grow ws xs grown ps (All-tail (λ q. IsTrue (is_place_of ws class.Term q)) p ps all) i

-- a row of places stands for the same row in more words
row_grows : (ws xs : List ℕ) → IsPrefix ws xs → (r : CRow) → IsRowOf ws r → plain_crow xs r ≡ plain_crow ws r
row_grows ws xs grown r is =
    λ i. record {
      cells = terms_grow ws xs grown r.cells is.terms i;
      condition = condition_in_prefix ws xs r.cond grown (place_within ws class.Cond r.cond is.condition) i;
    }

-- a cell that is put behind cells
pub cell_added : (ws xs ys : List ℕ) (cells : List Term) (place cell new : ℕ)
    → StandsAt xs place (IsRow cells) → IsTrue (is_place_of xs class.Row place) → IsPrefix xs ys
    → IsTrue (is_place_of ws class.Term cell) → IsPrefix ws ys
    → StandsAt ys new (by_kind (Some kind.RowCell) (meanings ys) place cell)
    → StandsAt ys new (IsRow (cells ++ term_at ws cell ∷ []))
cell_added ws xs ys cells place cell new s p grown q grown' stands =
    stands ∙ (λ i. Some (IsRow (as_row (stands_in_prefix xs ys place _ grown (place_within xs class.Row place p) s i)
    ++ term_in_prefix ws ys cell grown' (place_within ws class.Term cell q) i ∷ [])))

-- a row that is put behind rows
pub row_added : (old mid new : List ℕ) (list cells cond row place : ℕ) → IsPrefix old mid → IsPrefix mid new
    → IsTrue (is_place_of old class.RowList list) → IsTrue (is_place_of old class.Row cells) → IsTrue (is_place_of old class.Cond cond)
    → StandsAt mid row (by_kind (Some kind.ConditionalRow) (meanings mid) cells cond) → IsTrue (is_place_of mid class.CondRow row)
    → StandsAt new place (by_kind (Some kind.Rows) (meanings new) list row)
    → StandsAt new place (IsRowList (rows_at old list ++ row_under (condition_at old cond) (cells_at old cells) ∷ []))
row_added old mid new list cells cond row place grown later p q r t is stands =
    let said : as_cond_row (slice_get (meanings new) row) ≡ row_under (condition_at old cond) (cells_at old cells) =
    ap as_cond_row (meaning_kept mid new class.CondRow row later is ∙ t)
    ∙ (λ i. row_under (as_cond (meaning_kept old mid class.Cond cond grown r i)) (as_row (meaning_kept old mid class.Row cells grown q i))) in
    stands ∙ (λ i. Some (IsRowList (as_row_list (meaning_kept old new class.RowList list (prefix_of_prefix old mid new grown later) p i) ++ said i ∷ [])))

-- the first rows and the next one, read over more words
pub rows_one : (ws xs : List ℕ) (rows : List CRow) (i : ℕ) (r : CRow) → IsPrefix ws xs → All (IsRowOf ws) rows → i < length rows → r ≡ get_or rows i r
    → map (plain_crow ws) (take (i + 1) rows) ≡ map (plain_crow ws) (take i rows) ++ plain_crow xs r ∷ []
rows_one ws xs rows i r grown all lt at =
    let is : IsRowOf ws r = subst (IsRowOf ws) (sym at) (All-get_or (IsRowOf ws) rows i r lt all) in
    map_more (plain_crow ws) rows i r lt
    ∙ ap (λ y. map (plain_crow ws) (take i rows) ++ plain_crow ws y ∷ []) (sym at)
    ∙ ap (λ y. map (plain_crow ws) (take i rows) ++ y ∷ []) (sym (row_grows ws xs grown r is))

-- the row without cells stays where it stands
pub no_row_later : (ws xs : List ℕ) (p : ℕ) → IsPrefix ws xs → IsNoRow ws p → IsNoRow xs p
no_row_later ws xs p longer is = record {
  stands = stands_in_prefix ws xs p _ longer (place_within ws class.Row p is.class) is.stands;
  class = place_in_prefix ws xs class.Row p longer is.class;
  small = is.small;
}

-- a row of places stays one in more words
pub row_later : (ws xs : List ℕ) → IsPrefix ws xs → (r : CRow) → IsRowOf ws r → IsRowOf xs r
row_later ws xs longer r is = record {
  terms = All-weaker (λ p. IsTrue (is_place_of ws class.Term p)) (λ p. IsTrue (is_place_of xs class.Term p)) (λ p e. place_in_prefix ws xs class.Term p longer e) r.cells is.terms;
  condition = place_in_prefix ws xs class.Cond r.cond longer is.condition;
}
