-- Which terms stand below a predicate that was put on a row.
use Rattle.std.{proofs.Common.{◌≡◌, ◌<◌, ℕ, zero, suc, List, [], ◌∷◌, length, Some, None, get_or, ap, sym, subst, ◌∙◌, arith, inl, inr}, specs.Prelude.Contains}
use Rattle.std.proofs.lemmas.Option.{none-some}
use Rattle.ct_word.{specs.declared.values.Term.Term, specs.Condition.{Condition, Same, Not}, specs.Stands.TermBelow, specs.WellFormed.IsWellFormed}
use Rattle.ct_word.{specs.declared.connectives.Connective.Connective, proofs.Items.contains_of_get}
use Rattle.ct_query.specs.declared.query.Pred.{Pred, And, Row_of-Pred, end_of-Pred, more_of-Pred, items-the_row-Pred, items_hidden-the_row-Pred-0}
use Rattle.ct_query.{specs.Pred.{condition_of, conditions_of}, proofs.Trees.row_of}
use Rattle.ct_condition.{specs.Runs.under, specs.Rows.cell_for, proofs.OnRows.ArePlaces, proofs.Reached.{formed_before, terms_before, some_before}}
use Rattle.ct_condition.specs.Terms.{TermsFrom, BelowEither, IsNamed, IsNamedInSome, IsNamedBySome, IsOnRow, IsOnRowOfSome, IsTermOnRow}
use mathlib.Core.List.{IsPrefix}
use Rattle.ct_word.specs.declared.kinds.Class.TheVariants as class
use Rattle.ct_word.specs.declared.values.Term.TheVariants as term
use Rattle.ct_word.specs.declared.connectives.Connective.TheVariants as connective

cell_among : (cells : List ℕ) (t : Term) (place : ℕ) → cell_for cells t ≡ Some place → Contains cells place
cell_among cells (term.Column k) place e = contains_of_get cells k place e
cell_among cells (term.Null n) place e = absurd (none-some place e)
cell_among cells (term.Value x) place e = absurd (none-some place e)

-- below a cell, and below a term that is no column of the cells
pub cell_terms : (ws cells : List ℕ) (u : Term) (place : ℕ) → cell_for cells u ≡ Some place → TermsFrom ws place (IsTermOnRow ws cells u)
cell_terms ws cells u place e t h = inl (record { place = place; among = cell_among cells u place e; below = h })

pub own_terms : (old new cells : List ℕ) (u : Term) (place : ℕ) → cell_for cells u ≡ None → TermsFrom new place (λ t. t ≡ u) → TermsFrom new place (IsTermOnRow old cells u)
own_terms old new cells u place e from t h = let same = from t h in inr (same, ap (cell_for cells) same ∙ e)

-- below an equality of two terms
module _ (first mid last new cells : List ℕ) (longer : IsPrefix first mid) (on : IsPrefix mid last) (formed : IsWellFormed last) (places : ArePlaces first cells) (s u : Term) (left right q : ℕ) where
  pub equal_terms : left < length mid → TermsFrom mid left (IsTermOnRow first cells s) → TermsFrom last right (IsTermOnRow mid cells u)
      → TermsFrom new q (BelowEither last left right) → TermsFrom new q (IsOnRow first cells (Same s u))
  equal_terms lt l r from t h = elim (from t h) [
    | inl b ↦ elim (l t (terms_before mid last on formed left t lt b)) [
      | inl c ↦ inl c
      | inr n ↦ inr (inl n.0, n.1)
    ]
    | inr b ↦ elim (r t b) [
      | inl c ↦ inl (some_before first mid longer (formed_before mid last on formed) class.Term cells t places c)
      | inr n ↦ inr (inr n.0, n.1)
    ]
  ]

-- below a negation
pub not_terms : (first mid new cells : List ℕ) (place q : ℕ) (c d : Condition) → Not c ≡ d → TermsFrom mid place (IsOnRow first cells c)
    → TermsFrom new q (TermBelow mid place) → TermsFrom new q (IsOnRow first cells d)
not_terms first mid new cells place q c d e item from t h = elim (item t (from t h)) [
  | inl b ↦ inl b
  | inr n ↦ inr (subst (λ x. IsNamed x t) e n.0, n.1)
]

-- named by one predicate of a list
named_item : (ps : List Pred) (i : ℕ) (d : Pred) (t : Term) → i < length ps → IsNamed (condition_of (get_or ps i d)) t → IsNamedBySome ps t
named_item [] i d t lt h = absurd (omega (arith, lt))
named_item (p ∷ ps) zero d t lt h = inl h
named_item (p ∷ ps) (suc i) d t lt h = inr (named_item ps i d t (omega (arith, lt)) h)

named_row : (n : _) (row : Row_of-Pred n) (t : Term) → IsNamedBySome (items-the_row-Pred n row) t → IsNamedInSome (conditions_of row) t
named_row n end_of-Pred t h = h
named_row n (more_of-Pred c rest) t (inl h) = inl h
named_row n (more_of-Pred c rest) t (inr h) = inr (named_row _ rest t h)

named_list : (cs : List Pred) (t : Term) → IsNamedBySome cs t → IsNamedInSome (conditions_of (row_of (And cs)).1) t
named_list cs t h =
    let row = row_of (And cs) in
    named_row row.0 row.1 t (subst (λ ps. IsNamedBySome ps t) (sym (items_hidden-the_row-Pred-0 cs)) h)

named_under : (j : Connective) (cs : List Pred) (t : Term) → IsNamedBySome cs t → IsNamed (condition_of (under j cs)) t
named_under connective.And cs t h = named_list cs t h
named_under connective.Or cs t h = named_list cs t h

-- below a list under a connective
pub under_terms : (j : Connective) (old new cells : List ℕ) (place : ℕ) (cs : List Pred) → TermsFrom new place (IsOnRowOfSome old cells cs) → TermsFrom new place (IsOnRow old cells (condition_of (under j cs)))
under_terms j old new cells place cs from t h = elim (from t h) [
  | inl b ↦ inl b
  | inr n ↦ inr (named_under j cs t n.0, n.1)
]

-- below a run with one item more: place stands for the items before it, next for the item, q for both
module _ (first old mid new cells : List ℕ) (longer : IsPrefix first old) (on : IsPrefix old mid) (formed : IsWellFormed mid) (places : ArePlaces first cells)
    (ps : List Pred) (i : ℕ) (p : Pred) (within : i < length ps) (is : p ≡ get_or ps i p) (place next q : ℕ) where
  pub run_terms : place < length old → TermsFrom old place (IsOnRowOfSome first cells ps) → TermsFrom mid next (IsOnRow old cells (condition_of p))
      → TermsFrom new q (BelowEither mid place next) → TermsFrom new q (IsOnRowOfSome first cells ps)
  run_terms lt before item from t h = elim (from t h) [
    | inl b ↦ before t (terms_before old mid on formed place t lt b)
    | inr b ↦ elim (item t b) [
      | inl c ↦ inl (some_before first old longer (formed_before old mid on formed) class.Term cells t places c)
      | inr n ↦ inr (named_item ps i p t within (subst (λ r. IsNamed (condition_of r) t) is n.0), n.1)
    ]
  ]
