-- Tables keep what they are worth when words are added.
use Rattle.std.{proofs.Common.{◌≡◌, ℕ, List, [], ◌∷◌, map, refl, ap, sym, subst}, specs.Prelude.{IsTrue, All}, specs.List.IsDistinct}
use Rattle.std.proofs.lemmas.List.Elements.{All-head, All-tail, All-weaker}
use Rattle.ct_word.{specs.declared.values.CRow.CRow, specs.Value.{World, same_cells}, specs.WellFormed.{IsWellFormed, is_place_of}}
use Rattle.ct_word.{specs.Reading.{plain_crow, term_at}, proofs.Prefixes.{condition_in_prefix, place_in_prefix, place_within}}
use Rattle.ct_query.specs.Step.{shown_rows}
use Rattle.ct_condition.proofs.OnRows.{terms_in_prefix, places_in_prefix}
use Rattle.ct_operators.{specs.Tables.{cells_of, value_of_rows, IsRow, AreRows}, proofs.Reaching.{none_later, row_within}}
use mathlib.Core.List.{IsPrefix}
use Rattle.ct_word.specs.declared.kinds.Class.TheVariants as class

module _ (ws xs : List ℕ) (grown : IsPrefix ws xs) where
  -- places of terms stand for the same terms
  pub terms_grow : (ps : List ℕ) → All (λ p. IsTrue (is_place_of ws class.Term p)) ps → map (term_at xs) ps ≡ map (term_at ws) ps
  terms_grow ps all = terms_in_prefix ws xs ps grown all

  -- a row of places stands for the same row
  pub row_grows : (n : ℕ) (r : CRow) → IsRow ws n r → plain_crow xs r ≡ plain_crow ws r
  row_grows n r is =
      λ i. record { cells = terms_grow r.cells is.terms i; condition = condition_in_prefix ws xs r.cond grown (place_within ws class.Cond r.cond is.condition) i }

  pub plain_rows_grow : (n : ℕ) (rs : List CRow) → All (IsRow ws n) rs → map (plain_crow xs) rs ≡ map (plain_crow ws) rs
  plain_rows_grow n [] all = refl
  plain_rows_grow n (r ∷ rs) all =
      λ i. row_grows n r (All-head (IsRow ws n) r rs all) i ∷ plain_rows_grow n rs (All-tail (IsRow ws n) r rs all) i

  pub cells_grow : (n : ℕ) (rs : List CRow) → All (IsRow ws n) rs → cells_of xs rs ≡ cells_of ws rs
  cells_grow n [] all = refl
  cells_grow n (r ∷ rs) all =
      λ i. terms_grow r.cells (All-head (IsRow ws n) r rs all).terms i ∷ cells_grow n rs (All-tail (IsRow ws n) r rs all) i

  pub value_grows : (v : World) (n : ℕ) (rs : List CRow) → All (IsRow ws n) rs → value_of_rows xs v rs ≡ value_of_rows ws v rs
  value_grows v n rs all = ap (shown_rows v) (plain_rows_grow n rs all)

  pub is_row_grows : IsWellFormed ws → (n : ℕ) (r : CRow) → IsRow ws n r → IsRow xs n r
  is_row_grows formed n r is = record {
    terms = places_in_prefix ws xs r.cells grown is.terms;
    condition = place_in_prefix ws xs class.Cond r.cond grown is.condition;
    width_is = is.width_is;
    plain = none_later ws xs grown formed (r.cond ∷ r.cells) (row_within ws n r is.terms is.condition) is.plain;
  }

  -- the rows of a table go on being that
  pub rows_grow : IsWellFormed ws → (n : ℕ) (rs : List CRow) → AreRows ws n rs → AreRows xs n rs
  rows_grow formed n rs are = record {
    each = All-weaker (IsRow ws n) (IsRow xs n) (is_row_grows formed n) rs are.each;
    distinct = subst (λ cs. IsDistinct same_cells cs) (sym (cells_grow n rs are.each)) are.distinct;
    possible = are.possible;
  }
