-- Tables that are updated, over words that are added, and what an update of one is made of.
use Rattle.std.proofs.Common.{◌≡◌, ℕ, ◌<◌, List, Option, Some, refl, sym, ◌∙◌, subst}
use Rattle.std.{specs.Prelude.{All, IsTrue}, specs.List.IsDistinct, proofs.lemmas.Option.same_Some, proofs.lemmas.List.Elements.{All-contains, All-weaker}}
use Rattle.ct_word.{specs.declared.kinds.Kind.Kind, specs.Word.{kind_of, left_of, right_of}, specs.Reading.{Meaning, IsTerm, by_kind, meanings}}
use Rattle.ct_word.{specs.Stands.{TermBelow}, specs.WellFormed.{IsWellFormed, is_place_of}, specs.Value.same_cells, proofs.Splits.meaning_at, proofs.Items.contains_of_get}
use Rattle.ct_word.specs.declared.values.CRow.{CRow}
use Rattle.ct_condition.proofs.Chains.{word_under}
use Rattle.ct_operators.{specs.Tables.{AreRows, IsRow}, proofs.Growing.{is_row_grows, cells_grow}}
use Rattle.ct_update.specs.Updating.{FitsUpdate}
use mathlib.Core.List.{IsPrefix}
use Rattle.ct_word.specs.declared.kinds.Class.TheVariants as class
use Rattle.ct_word.specs.declared.kinds.Kind.TheVariants as kind
use Rattle.ct_word.specs.declared.values.Term.TheVariants as term

-- a word that is that of a column names one of so many
abbrev pub IsWithin : ℕ → ℕ → Type 0
IsWithin width w = kind_of w ≡ Some kind.Column → left_of w < width

-- a set is one of a row of so many cells
abbrev pub IsSetOf : List ℕ → ℕ → ℕ × ℕ → Type 0
IsSetOf words width s = (s.0 < width) × IsTrue (is_place_of words class.Term s.1)

column_word : (o : Option Kind) (ms : List Meaning) (a b k : ℕ) → by_kind o ms a b ≡ IsTerm (term.Column k) → (o ≡ Some kind.Column) × (a ≡ k)
column_word (Some kind.Column) ms a b k e = (refl, cc)
column_word _ ms a b k e = cc

pub columns_within : (words : List ℕ) (width : ℕ) → IsWellFormed words → All (IsWithin width) words → (place k : ℕ) → TermBelow words place (term.Column k) → k < width
columns_within words width formed all place k t =
    let w = word_under words formed t.0 (IsTerm (term.Column k)) t.2 in
    let is = column_word (kind_of w.0) (meanings words) (left_of w.0) (right_of w.0) k (same_Some _ _ (sym (meaning_at words formed t.0 w.0 w.1) ∙ t.2)) in
    subst (λ n. n < width) is.1 (All-contains (IsWithin width) words w.0 all (contains_of_get words t.0 w.0 w.1) is.0)

pub fits_update : (words : List ℕ) (width : ℕ) (sets : List (ℕ × ℕ)) (cond : ℕ) → All (IsSetOf words width) sets → IsTrue (is_place_of words class.Cond cond)
    → ((place k : ℕ) → TermBelow words place (term.Column k) → k < width) → FitsUpdate words width sets cond
fits_update words width sets cond fit is within = record {
  positions = All-weaker (IsSetOf words width) (λ s. s.0 < width) (λ s h. h.0) sets fit;
  terms = All-weaker (IsSetOf words width) (λ s. IsTrue (is_place_of words class.Term s.1)) (λ s h. h.1) sets fit;
  condition = is;
  columns = λ k b. within b.place k b.below;
}

pub rows_stay : (old now : List ℕ) → IsPrefix old now → IsWellFormed old → (width : ℕ) (rows : List CRow) → AreRows old width rows → AreRows now width rows
rows_stay old now grown formed width rows are = record {
  each = All-weaker (IsRow old width) (IsRow now width) (is_row_grows old now grown formed width) rows are.each;
  distinct = subst (IsDistinct same_cells) (sym (cells_grow old now grown width rows are.each)) are.distinct;
  possible = are.possible;
}
