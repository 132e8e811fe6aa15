-- The cell that stands for a term.
use Rattle.std.proofs.Common.{◌≡◌, ℕ, ◌<◌, ◌≤◌, true, List, [], Option, Some, None, map, length, get_or, refl, ap, sym, subst, ◌∙◌, arith, inl, inr}
use Rattle.std.{specs.Prelude.{IsTrue, All, slice_get, unwrap_or}, specs.List.Contains, proofs.lemmas.Bool.false≢true, proofs.lemmas.Option.{slice_get_past, slice_get-get_or}}
use Rattle.std.{proofs.lemmas.List.{length-map, get_or_past}, proofs.lemmas.List.Elements.{All-get_or, Contains-get_or}}
use Rattle.ct_word.{specs.declared.kinds.Kind.Kind, specs.declared.values.Value.Value, specs.declared.values.Term.Term, specs.Word.{kind_of, left_of, right_of}}
use Rattle.ct_word.{specs.Value.{World, at, other_zero}, specs.WordAt.IsWordAt}
use Rattle.ct_word.specs.Reading.{by_kind, meanings, as_term, term_at}
use Rattle.ct_word.specs.WellFormed.{IsWellFormed, is_place_of, is_word_of, has_class}
use Rattle.ct_condition.{specs.Rows.cell_for}
use Rattle.ct_operators.{proofs.Selecting.cell_of_tuple, specs.Placing.{tuple_of, column_of, IsCellFor}}
use Rattle.ct_operators.proofs.Reaching.{word_apart, term_alone}
use Rattle.ct_word.specs.declared.kinds.Kind.TheVariants as kind
use Rattle.ct_word.specs.declared.kinds.Class.TheVariants as class
use Rattle.ct_word.specs.declared.values.Term.TheVariants as term

module _ (ws : List ℕ) (wf : IsWellFormed ws) (place w : ℕ) (there : slice_get ws place ≡ Some w) where
  apart : (k : Kind) → kind_of w ≡ Some k → IsWordAt ws place (record { kind = k; left = left_of w; right = right_of w })
  apart k is = word_apart ws wf place w there k is

  term_is : (k : Kind) → kind_of w ≡ Some k → term_at ws place ≡ as_term (Some (by_kind (Some k) (meanings ws) (left_of w) (right_of w)))
  term_is k is = ap as_term (apart k is).meaning

  -- a term that is no column is worth the same on each row, and no cell is put for it
  plain : (t : Term) → term_at ws place ≡ t → ((v : World) (row : List Value) → at v [] t ≡ at v row t) → ((cells : List ℕ) → cell_for cells t ≡ None)
      → ((v : World) (row : List Value) → at v [] (term_at ws place) ≡ at v row (term_at ws place)) × ((cells : List ℕ) → cell_for cells (term_at ws place) ≡ None)
  plain t is same none = (λ v row. ap (at v []) is ∙ same v row ∙ sym (ap (at v row) is), λ cells. ap (cell_for cells) is ∙ none cells)

  uncolumned : (o : Option Kind) → kind_of w ≡ o → has_class o class.Term ≡ true → column_of o (left_of w) ≡ None
      → ((v : World) (row : List Value) → at v [] (term_at ws place) ≡ at v row (term_at ws place)) × ((cells : List ℕ) → cell_for cells (term_at ws place) ≡ None)
  uncolumned (Some kind.Number) is e n = plain _ (term_is kind.Number is) (λ v row. refl) (λ cells. refl)
  uncolumned (Some kind.TextConstant) is e n = plain _ (term_is kind.TextConstant is) (λ v row. refl) (λ cells. refl)
  uncolumned (Some kind.NamedNull) is e n = plain _ (term_is kind.NamedNull is) (λ v row. refl) (λ cells. refl)
  uncolumned (Some kind.FreshNull) is e n = plain _ (term_is kind.FreshNull is) (λ v row. refl) (λ cells. refl)
  uncolumned (Some kind.OtherValue) is e n = plain _ (term_is kind.OtherValue is) (λ v row. refl) (λ cells. refl)
  uncolumned (Some kind.Column) is e n = let bad : Some (left_of w) ≡ None = n in cc
  uncolumned _ is e n = absurd (false≢true e)

  column_by_kind : (o : Option Kind) → kind_of w ≡ o → (k : ℕ) → column_of o (left_of w) ≡ Some k → term_at ws place ≡ term.Column k
  column_by_kind (Some kind.Column) is k e =
      let same : Some (left_of w) ≡ Some k = e in
      let at_k : left_of w ≡ k = cc in
      term_is kind.Column is ∙ ap term.Column at_k
  column_by_kind _ is k e = let bad : None ≡ Some k = e in cc

  module _ (cells : List ℕ) (class_is : IsTrue (is_place_of ws class.Term place)) where
    -- no column
    pub term_itself : column_of (kind_of w) (left_of w) ≡ None → IsCellFor ws cells place place
    term_itself n =
        let alone = uncolumned (kind_of w) refl (sym (ap (λ o. is_word_of o class.Term) there) ∙ class_is) n in
        record {
          is = sym (ap (λ o. unwrap_or o place) (alone.1 cells));
          class = class_is;
          worth = λ v. alone.0 v (tuple_of ws cells v);
          from = λ u h. inr (h, ap (cell_for cells) (term_alone ws wf place u class_is h) ∙ alone.1 cells);
        }

    -- a column of the row
    pub cell_itself : (k cell : ℕ) → column_of (kind_of w) (left_of w) ≡ Some k → get_or cells k 0 ≡ cell → k < length cells
        → All (λ p. IsTrue (is_place_of ws class.Term p)) cells → IsCellFor ws cells place cell
    cell_itself k cell c is lt terms = record {
      is = sym (ap (λ t. unwrap_or (cell_for cells t) place) (column_by_kind (kind_of w) refl k c) ∙ ap (λ o. unwrap_or o place) (slice_get-get_or cells k 0 lt) ∙ is);
      class = subst (λ p. IsTrue (is_place_of ws class.Term p)) is (All-get_or (λ p. IsTrue (is_place_of ws class.Term p)) cells k 0 lt terms);
      worth = λ v.
          ap (λ p. at v [] (term_at ws p)) (sym is)
          ∙ sym (cell_of_tuple ws v cells k lt)
          ∙ sym (ap (at v (tuple_of ws cells v)) (column_by_kind (kind_of w) refl k c));
      from = λ u h. inl (record { place = cell; among = subst (Contains cells) is (Contains-get_or cells k 0 lt); below = h });
    }

    -- a column past the row's end
    pub column_itself : (k : ℕ) → column_of (kind_of w) (left_of w) ≡ Some k → length cells ≤ k → IsCellFor ws cells place place
    column_itself k c past = record {
      is = sym (ap (λ t. unwrap_or (cell_for cells t) place) (column_by_kind (kind_of w) refl k c) ∙ ap (λ o. unwrap_or o place) (slice_get_past cells k past));
      class = class_is;
      worth = λ v.
          ap (at v []) (column_by_kind (kind_of w) refl k c)
          ∙ sym (get_or_past (tuple_of ws cells v) k other_zero (omega (arith, length-map cells (term_at ws), length-map (map (term_at ws) cells) (at v []))))
          ∙ sym (ap (at v (tuple_of ws cells v)) (column_by_kind (kind_of w) refl k c));
      from = λ u h. inr (h, ap (cell_for cells) (term_alone ws wf place u class_is h ∙ column_by_kind (kind_of w) refl k c) ∙ slice_get_past cells k past);
    }
