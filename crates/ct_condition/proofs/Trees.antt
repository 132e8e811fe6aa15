-- Predicates over lists of predicates, on the cells of a row.
use Rattle.std.{proofs.Common.{◌≡◌, ℕ, List, ap, sym, ◌∙◌, subst}, specs.Prelude.{All, IsTrue}, proofs.lemmas.List.Elements.{All-nil, All-cons, All-same}}
use Rattle.ct_word.{specs.WellFormed.is_place_of, specs.declared.values.Value.Value, specs.Value.World, specs.Condition.holds}
use Rattle.ct_word.specs.declared.connectives.Connective.{Connective}
use Rattle.ct_query.specs.declared.query.Pred.{Pred, And, Row_of-Pred, end_of-Pred, more_of-Pred, items-the_row-Pred, items_hidden-the_row-Pred-0}
use Rattle.ct_query.{specs.Pred.{condition_of, conditions_of}, proofs.Trees.{row_of, holds_and, holds_or}, specs.Fields.{AreFittingOn, AreAllFittingOn}}
use Rattle.ct_condition.{specs.Truth.HasTruth, specs.Rows.{values_on, on_row}, specs.Runs.under, proofs.Runs.list_under, proofs.Truths.in_place}
use Rattle.ct_condition.proofs.OnRows.{on_row_in_prefix}
use mathlib.Core.List.{IsPrefix}
use Rattle.ct_word.specs.declared.kinds.Class.TheVariants as class
use Rattle.ct_word.specs.declared.connectives.Connective.TheVariants as connective

-- over rows of so many cells
module _ (width : ℕ) where
  abbrev Fitting : Pred → Type 0
  Fitting c = AreFittingOn width (condition_of c)

  fit_row : (n : _) (row : Row_of-Pred n) → AreAllFittingOn width (conditions_of row) → All Fitting (items-the_row-Pred n row)
  fit_row n end_of-Pred fit = All-nil Fitting
  fit_row n (more_of-Pred c rest) fit = All-cons Fitting c (items-the_row-Pred _ rest) fit.0 (fit_row _ rest fit.1)

  fit_list : (cs : List Pred) → AreAllFittingOn width (conditions_of (row_of (And cs)).1) → All Fitting cs
  fit_list cs fit =
      let row = row_of (And cs) in
      All-same Fitting cs (items-the_row-Pred row.0 row.1) (sym (items_hidden-the_row-Pred-0 cs)) (fit_row row.0 row.1 fit)

  -- each part of an And fits, and each part of an Or
  pub fit_under : (j : Connective) (p : Pred) (cs : List Pred) → p ≡ under j cs → Fitting p → All Fitting cs
  fit_under connective.And p cs e fit = fit_list cs (subst Fitting e fit)
  fit_under connective.Or p cs e fit = fit_list cs (subst Fitting e fit)

holds_under : (j : Connective) (v : World) (row : List Value) (cs : List Pred) → holds v row (condition_of (under j cs)) ≡ list_under j (λ c. holds v row (condition_of c)) cs
holds_under connective.And v row cs = holds_and v row cs
holds_under connective.Or v row cs = holds_or v row cs

pub under_on_row : (j : Connective) (ws new : List ℕ) (place : ℕ) (cs : List Pred) (cells : List ℕ) → HasTruth new place (λ v row. list_under j (λ c. on_row ws (condition_of c) cells v row) cs) → HasTruth new place (on_row ws (condition_of (under j cs)) cells)
under_on_row j ws new place cs cells h =
    in_place new place (λ v row. list_under j (λ c. on_row ws (condition_of c) cells v row) cs) (on_row ws (condition_of (under j cs)) cells) h
    (λ v row. sym (holds_under j v (values_on ws cells v row) cs))

-- the truth of an item, said of the words at the beginning
pub item_on_row : (first old mid : List ℕ) (next : ℕ) (cells : List ℕ) (p q : Pred) → IsPrefix first old → All (λ s. IsTrue (is_place_of first class.Term s)) cells → p ≡ q
    → HasTruth mid next (on_row old (condition_of p) cells) → HasTruth mid next (on_row first (condition_of q) cells)
item_on_row first old mid next cells p q longer places e h =
    in_place mid next (on_row old (condition_of p) cells) (on_row first (condition_of q) cells) h
    (λ v row. on_row_in_prefix first old (condition_of p) cells longer places v row ∙ ap (λ r. on_row first (condition_of r) cells v row) e)
