-- How many parts a predicate has, which a recursion over it goes down.
use Rattle.std.{proofs.Common.{◌≡◌, ℕ, ◌+◌, List, refl, ap, sym, ◌∙◌}, specs.Prelude.sum_by, proofs.lemmas.List.Sums.sum_by-cons}
use Rattle.ct_word.{specs.Condition.{Condition, Conditions, True, False, Same, Not, And, Or, none, also}, specs.declared.connectives.Connective.Connective}
use Rattle.ct_query.specs.declared.query.Pred.{Pred, Row_of-Pred, end_of-Pred, more_of-Pred, items-the_row-Pred, items_hidden-the_row-Pred-0}
use Rattle.ct_query.{specs.Pred.{condition_of, conditions_of}, proofs.Trees.row_of}
use Rattle.ct_condition.specs.Runs.{under}
use Rattle.ct_query.specs.declared.query.Pred as pred
use Rattle.ct_word.specs.declared.connectives.Connective.TheVariants as connective

abbrev mutual
  pub parts : Condition → ℕ
  parts True = 1
  parts False = 1
  parts (Same s t) = 1
  parts (Not c) = parts c + 1
  parts (And cs) = all_parts cs + 1
  parts (Or cs) = all_parts cs + 1

  pub all_parts : Conditions → ℕ
  all_parts none = 0
  all_parts (also c cs) = parts c + all_parts cs

-- the parts of a predicate, and of a list of them
abbrev pub parts_of : Pred → ℕ
parts_of p = parts (condition_of p)

abbrev pub parts_of_all : List Pred → ℕ
parts_of_all ps = sum_by parts_of ps

of_row : (n : _) (row : Row_of-Pred n) → all_parts (conditions_of row) ≡ parts_of_all (items-the_row-Pred n row)
of_row n end_of-Pred = refl
of_row n (more_of-Pred c rest) = ap (λ k. parts_of c + k) (of_row _ rest) ∙ sym (sum_by-cons parts_of c (items-the_row-Pred _ rest))

of_list : (cs : List Pred) → all_parts (conditions_of (row_of (pred.And cs)).1) ≡ parts_of_all cs
of_list cs = let row = row_of (pred.And cs) in of_row row.0 row.1 ∙ ap parts_of_all (items_hidden-the_row-Pred-0 cs)

-- an And and an Or have one part more than their lists
pub parts_under : (j : Connective) (p : Pred) (cs : List Pred) → p ≡ under j cs → parts_of p ≡ parts_of_all cs + 1
parts_under connective.And p cs e = ap parts_of e ∙ ap (λ k. k + 1) (of_list cs)
parts_under connective.Or p cs e = ap parts_of e ∙ ap (λ k. k + 1) (of_list cs)
