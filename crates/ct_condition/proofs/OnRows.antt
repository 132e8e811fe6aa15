-- Terms and conditions with the cells of a row put for their columns.
use Rattle.std.{proofs.Common.{◌≡◌, ℕ, zero, suc, List, [], ◌∷◌, ◌++◌, map, length, drop, Some, None, refl, ap, sym, ◌∙◌}, proofs.Math.Seq.drop-nil}
use Rattle.std.{specs.Prelude.{All, IsTrue, slice_get}, proofs.lemmas.Option.none-some, proofs.lemmas.List.append-nil}
use Rattle.std.proofs.lemmas.List.Elements.{All-head, All-tail, All-weaker, All-contains}
use Rattle.ct_word.{specs.declared.values.Value.Value, specs.declared.values.Term.Term, specs.Value.{World, at, cell_at, same_value}, specs.Stands.StandsAt}
use Rattle.ct_word.{specs.Condition.{Condition, Same, holds}, specs.Reading.{IsTerm, as_term, term_at}, specs.WellFormed.is_place_of}
use Rattle.ct_word.{proofs.Prefixes.{place_within, place_in_prefix, term_in_prefix}, proofs.Items.contains_of_get}
use Rattle.ct_condition.{specs.Truth.{HasTruth, equal_at}, specs.Rows.{cell_for, values_on, on_row, WorthOn}, proofs.Truths.in_place}
use mathlib.Core.List.{IsPrefix}
use Rattle.ct_word.specs.declared.kinds.Class.TheVariants as class
use Rattle.ct_word.specs.declared.values.Term.TheVariants as term

abbrev pub ArePlaces : List ℕ → List ℕ → Type 0
ArePlaces ws cells = All (λ s. IsTrue (is_place_of ws class.Term s)) cells

-- the cells stand for the same terms as words are added
pub terms_in_prefix : (old new cells : List ℕ) → IsPrefix old new → ArePlaces old cells → map (term_at new) cells ≡ map (term_at old) cells
terms_in_prefix old new [] longer places = refl
terms_in_prefix old new (s ∷ cells) longer places =
    λ i. term_in_prefix old new s longer (place_within old class.Term s (All-head (λ q. IsTrue (is_place_of old class.Term q)) s cells places)) i
    ∷ terms_in_prefix old new cells longer (All-tail (λ q. IsTrue (is_place_of old class.Term q)) s cells places) i

-- they stay places of terms
pub places_in_prefix : (old new cells : List ℕ) → IsPrefix old new → ArePlaces old cells → ArePlaces new cells
places_in_prefix old new cells longer places =
    All-weaker (λ s. IsTrue (is_place_of old class.Term s)) (λ s. IsTrue (is_place_of new class.Term s)) (λ s e. place_in_prefix old new class.Term s longer e) cells places

-- so a condition keeps its truth on them
pub on_row_in_prefix : (old new : List ℕ) (c : Condition) (cells : List ℕ) → IsPrefix old new → ArePlaces old cells → (v : World) (row : List Value) → on_row new c cells v row ≡ on_row old c cells v row
on_row_in_prefix old new c cells longer places v row =
    ap (λ ts. holds v (map (at v row) ts ++ drop (length cells) row) c) (terms_in_prefix old new cells longer places)

-- on a row without values of its own, a condition has its truth on what the cells are worth
pub on_cells : (ws : List ℕ) (c : Condition) (cells : List ℕ) (v : World) → on_row ws c cells v [] ≡ holds v (map (at v []) (map (term_at ws) cells)) c
on_cells ws c cells v =
    ap (λ rest. holds v (map (at v []) (map (term_at ws) cells) ++ rest) c) (drop-nil (length cells))
    ∙ ap (λ values. holds v values c) (append-nil (map (at v []) (map (term_at ws) cells)))

module _ (ws : List ℕ) (v : World) (row : List Value) where
  cell_within : (cells : List ℕ) (rest : List Value) (k place : ℕ) → slice_get cells k ≡ Some place
      → at v row (term_at ws place) ≡ cell_at (map (at v row) (map (term_at ws) cells) ++ rest) k
  cell_within [] rest k place e = absurd (none-some place e)
  cell_within (s ∷ cells) rest zero place e = cc
  cell_within (s ∷ cells) rest (suc k) place e = cell_within cells rest k place e

  cell_past : (cells : List ℕ) (values : List Value) (k : ℕ) → slice_get cells k ≡ None
      → cell_at values k ≡ cell_at (map (at v row) (map (term_at ws) cells) ++ drop (length cells) values) k
  cell_past [] values k e = refl
  cell_past (s ∷ cells) values zero e = absurd (none-some s (sym e))
  cell_past (s ∷ cells) [] (suc k) e = cell_past cells [] k e ∙ ap (λ rest. cell_at (map (at v row) (map (term_at ws) cells) ++ rest) k) (drop-nil (length cells))
  cell_past (s ∷ cells) (x ∷ values) (suc k) e = cell_past cells values k e

-- a cell is worth what its column is
pub cell_worth : (ws cells : List ℕ) (t : Term) (place : ℕ) → cell_for cells t ≡ Some place → WorthOn ws ws t cells place
cell_worth ws cells (term.Column k) place e v row = cell_within ws v row cells (drop (length cells) row) k place e
cell_worth ws cells (term.Null n) place e v row = absurd (none-some place e)
cell_worth ws cells (term.Value x) place e v row = absurd (none-some place e)

-- a term that is no column of the cells is worth what it is by itself
alone : (ws cells : List ℕ) (t : Term) → cell_for cells t ≡ None → (v : World) (row : List Value) → at v row t ≡ at v (values_on ws cells v row) t
alone ws cells (term.Column k) e v row = cell_past ws v row cells row k e
alone ws cells (term.Null n) e v row = refl
alone ws cells (term.Value x) e v row = refl

pub term_worth : (old new cells : List ℕ) (t : Term) (place : ℕ) → cell_for cells t ≡ None → StandsAt new place (IsTerm t) → WorthOn old new t cells place
term_worth old new cells t place e stands v row = ap (λ o. at v row (as_term o)) stands ∙ alone old cells t e v row

-- a cell is the place of a term
pub cell_place : (ws cells : List ℕ) (t : Term) (place : ℕ) → cell_for cells t ≡ Some place → ArePlaces ws cells → IsTrue (is_place_of ws class.Term place)
cell_place ws cells (term.Column k) place e places = All-contains (λ s. IsTrue (is_place_of ws class.Term s)) cells place places (contains_of_get cells k place e)
cell_place ws cells (term.Null n) place e places = absurd (none-some place e)
cell_place ws cells (term.Value x) place e places = absurd (none-some place e)

-- the equality of two terms on the cells
module _ (first mid last new cells : List ℕ) (s t : Term) (left right q : ℕ)
    (longer : IsPrefix first mid) (on : IsPrefix mid last) (places : ArePlaces first cells) where
  pub equal_on_row : WorthOn first mid s cells left → IsTrue (is_place_of mid class.Term left) → WorthOn mid last t cells right → HasTruth new q (equal_at last left right)
      → HasTruth new q (on_row first (Same s t) cells)
  equal_on_row l is r h =
      in_place new q (equal_at last left right) (on_row first (Same s t) cells) h
      (λ v row. λ i. same_value ((ap (at v row) (term_in_prefix mid last left on (place_within mid class.Term left is)) ∙ l v row) i)
      ((r v row ∙ ap (λ ts. at v (map (at v row) ts ++ drop (length cells) row) t) (terms_in_prefix first mid cells longer places)) i))
