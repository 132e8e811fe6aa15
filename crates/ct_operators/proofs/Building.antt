-- Rows in the making, row by row.
use Rattle.std.{proofs.Common.{◌≡◌, ℕ, List, [], ◌∷◌, ◌++◌, map, refl, ◌∙◌}, proofs.lemmas.List.map-append}
use Rattle.std.proofs.lemmas.List.Elements.{All-append, All-cons, All-nil, All-weaker}
use Rattle.ct_word.{specs.declared.values.Value.Value, specs.declared.values.Term.Term, specs.declared.values.CRow.CRow, specs.Value.World}
use Rattle.ct_word.{specs.Reading.term_at, specs.WellFormed.IsWellFormed, proofs.Prefixes.{prefix_of_prefix, prefix_same}}
use Rattle.ct_operators.{specs.Tables.{value_of_rows, IsRow}, specs.Terms.RowFrom, specs.Building.Builds, proofs.Reaching.{rows_later, rows_wider}}
use Rattle.ct_operators.{proofs.Selecting.value-append, proofs.Growing.{is_row_grows, cells_grow, value_grows}}
use mathlib.Core.List.{IsPrefix}

pub builds_none : (old : List ℕ) (width : ℕ) (source : Term → Type 0) → Builds old old width [] (λ v. []) source []
builds_none old width source = record { grown = prefix_same old; each = All-nil _; cells_are = refl; worth_is = λ v. refl; from = All-nil _ }

-- the same rows, said in other words
pub builds_as : (old now : List ℕ) (width : ℕ) (cells cells' : List (List Term)) (worth worth' : World → List (List Value)) (source source' : Term → Type 0) (out : List CRow)
    → cells ≡ cells' → ((v : World) → worth v ≡ worth' v) → ((t : Term) → source t → source' t) → Builds old now width cells worth source out → Builds old now width cells' worth' source' out
builds_as old now width cells cells' worth worth' source source' out c w u s = record {
  grown = s.grown;
  each = s.each;
  cells_are = s.cells_are ∙ c;
  worth_is = λ v. s.worth_is v ∙ w v;
  from = rows_wider now source source' u out s.from;
}

-- rows, and more of them
pub builds_append : (old now new : List ℕ) (formed : IsWellFormed now) (width : ℕ) (cells more : List (List Term)) (worth gain : World → List (List Value)) (source : Term → Type 0) (out added : List CRow)
    → Builds old now width cells worth source out → Builds now new width more gain source added → Builds old new width (cells ++ more) (λ v. worth v ++ gain v) source (out ++ added)
builds_append old now new formed width cells more worth gain source out added s t = record {
  grown = prefix_of_prefix old now new s.grown t.grown;
  each = All-append (IsRow new width) out added (All-weaker (IsRow now width) (IsRow new width) (is_row_grows now new t.grown formed width) out s.each) t.each;
  cells_are = map-append (λ (r : CRow). map (term_at new) r.cells) out added ∙ (λ i. (cells_grow now new t.grown width out s.each ∙ s.cells_are) i ++ t.cells_are i);
  worth_is = λ v. value-append new v out added ∙ (λ i. (value_grows now new t.grown v width out s.each ∙ s.worth_is v) i ++ t.worth_is v i);
  from = All-append (RowFrom new source) out added (rows_later now new t.grown formed width source out s.each s.from) t.from;
}

-- one row
pub builds_one : (now new : List ℕ) (width : ℕ) (source : Term → Type 0) (r : CRow) → IsPrefix now new → IsRow new width r → RowFrom new source r
    → Builds now new width (map (term_at new) r.cells ∷ []) (λ v. value_of_rows new v (r ∷ [])) source (r ∷ [])
builds_one now new width source r longer is origin = record {
  grown = longer;
  each = All-cons (IsRow new width) r [] is (All-nil _);
  cells_are = refl;
  worth_is = λ v. refl;
  from = All-cons (RowFrom new source) r [] origin (All-nil _);
}
