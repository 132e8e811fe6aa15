-- How many words a predicate is put by.
use Rattle.std.proofs.Common.{◌≡◌, ℕ, ◌+◌, ◌-◌, ◌≤◌, ◌<◌, Bool, true, false, List, [], ◌∷◌, Option, Some, None, Result, Ok, Err, length, take, get_or, nat_eq, inl, inr, refl, ap, sym, ◌∙◌, arith}
use Rattle.std.{specs.Prelude.{is_some, sum_by}, proofs.lemmas.Bool.{cases_eq, eqb-true}, proofs.lemmas.List.length-take-le}
use Rattle.std.proofs.lemmas.List.Sums.{sum_by-cons, sum_by_more, sum_by-take-le}
use Rattle.ct_word.{specs.declared.values.Term.Term, proofs.Prefixes.prefix_of_prefix, specs.declared.connectives.Connective.Connective}
use Rattle.ct_query.specs.declared.query.Pred.{Pred, And, Row_of-Pred, end_of-Pred, more_of-Pred, items-the_row-Pred, items_hidden-the_row-Pred-0}
use Rattle.ct_query.{specs.Pred.{condition_of, conditions_of}, specs.Bounds.{connectives, over_all_equalities, all_ops}, proofs.Trees.row_of}
use Rattle.ct_condition.{specs.Folding.{FoldsTo, folded_join, unit_place, settling_place}, specs.Rows.{term_words, new_words, words_on}}
use Rattle.ct_condition.{specs.Runs.{run_words, run_new_words, under}, proofs.Placed.{new_fewer, words_fewer}}
use mathlib.Core.List.{IsPrefix}
use Rattle.ct_word.specs.declared.connectives.Connective.TheVariants as connective

module _ (words cells : List ℕ) where
  abbrev of_terms : Term → Term → ℕ
  of_terms s t = term_words words cells s + term_words words cells t

  abbrev pub of_one : Pred → ℕ
  of_one p = words_on words cells (condition_of p)

  abbrev new_of_one : Pred → ℕ
  new_of_one p = new_words words cells (condition_of p)

  of_row : (n : _) (row : Row_of-Pred n) → over_all_equalities of_terms (conditions_of row) + all_ops (conditions_of row) ≡ sum_by of_one (items-the_row-Pred n row)
  of_row n end_of-Pred = refl
  of_row n (more_of-Pred c rest) = let e = of_row _ rest in omega (arith, sum_by-cons of_one c (items-the_row-Pred _ rest))

  new_row : (n : _) (row : Row_of-Pred n) → over_all_equalities of_terms (conditions_of row) ≡ sum_by new_of_one (items-the_row-Pred n row)
  new_row n end_of-Pred = refl
  new_row n (more_of-Pred c rest) = ap (λ k. new_of_one c + k) (new_row _ rest) ∙ sym (sum_by-cons new_of_one c (items-the_row-Pred _ rest))

  pub joined : (n : _) (row : Row_of-Pred n) → connectives (conditions_of row) ≡ length (items-the_row-Pred n row) - 1
  joined n end_of-Pred = refl
  joined n (more_of-Pred c end_of-Pred) = refl
  joined n (more_of-Pred c (more_of-Pred d rest)) = let e = joined _ (more_of-Pred d rest) in omega arith

  of_list : (cs : List Pred) → words_on words cells (condition_of (And cs)) ≡ run_words words cells cs
  of_list cs =
      let row = row_of (And cs) in
      let e = of_row row.0 row.1 in
      let j = joined row.0 row.1 in
      omega arith ∙ ap (run_words words cells) (items_hidden-the_row-Pred-0 cs)

  new_list : (cs : List Pred) → new_words words cells (condition_of (And cs)) ≡ run_new_words words cells cs
  new_list cs = let row = row_of (And cs) in new_row row.0 row.1 ∙ ap (run_new_words words cells) (items_hidden-the_row-Pred-0 cs)

  -- a list under a connective is put by the words of its run, and its terms by those of the run's
  pub words_under : (j : Connective) (cs : List Pred) → words_on words cells (condition_of (under j cs)) ≡ run_words words cells cs
  words_under connective.And cs = of_list cs
  words_under connective.Or cs = of_list cs

  pub new_under : (j : Connective) (cs : List Pred) → new_words words cells (condition_of (under j cs)) ≡ run_new_words words cells cs
  new_under connective.And cs = new_list cs
  new_under connective.Or cs = new_list cs

-- the terms of a run are put by no more words where words were added before
run_fewer : (old new cells : List ℕ) → IsPrefix old new → (ps : List Pred) → run_new_words new cells ps ≤ run_new_words old cells ps
run_fewer old new cells longer [] = omega arith
run_fewer old new cells longer (p ∷ ps) =
    omega (arith, new_fewer old new cells longer (condition_of p), run_fewer old new cells longer ps, sum_by-cons (new_of_one old cells) p ps, sum_by-cons (new_of_one new cells) p ps)

-- where the terms of the items so far have their places, and those of one more
pub placed_more : (old mid new cells : List ℕ) → IsPrefix old mid → IsPrefix mid new → (ps : List Pred) (i : ℕ) (p : Pred) → i < length ps → p ≡ get_or ps i p
    → run_new_words old cells (take i ps) ≡ 0 → new_words mid cells (condition_of p) ≡ 0 → run_new_words new cells (take (i + 1) ps) ≡ 0
placed_more old mid new cells l k ps i p within is before item =
    let more : run_new_words new cells (take (i + 1) ps) ≡ run_new_words new cells (take i ps) + new_of_one new cells p =
    sum_by_more (new_of_one new cells) ps i p within ∙ ap (λ q. run_new_words new cells (take i ps) + new_of_one new cells q) (sym is) in
    omega (arith, run_fewer old new cells (prefix_of_prefix old mid new l k) (take i ps), new_fewer mid new cells k (condition_of p), more, before, item)

-- a run by its items: m counts the words before the run, m1 those before an item, m2 those after it, m3 those after its connective
module _ (words now cells : List ℕ) (longer : IsPrefix words now) (ps : List Pred) (i : ℕ) (p : Pred) (within : i < length ps) (is : p ≡ get_or ps i p) (m m1 m2 m3 : ℕ)
    (before : m1 ≤ m + run_words words cells (take i ps)) where
  abbrev sums : List Pred → ℕ
  sums qs = sum_by (of_one words cells) qs

  more : sums (take (i + 1) ps) ≡ sums (take i ps) + of_one words cells p
  more = sum_by_more (of_one words cells) ps i p within ∙ ap (λ q. sums (take i ps) + of_one words cells q) (sym is)

  all : sums (take (i + 1) ps) ≤ sums ps
  all = sum_by-take-le (of_one words cells) ps (i + 1)

  fewer : of_one now cells p ≤ of_one words cells p
  fewer = words_fewer words now cells longer (condition_of p)

  pub run_more : m2 ≤ m1 + of_one now cells p → (i ≡ 0 → m3 ≡ m2) → m3 ≤ m2 + 1 → m3 ≤ m + run_words words cells (take (i + 1) ps)
  run_more item first next = elim (cases_eq i 0) [
    | inl e ↦ let same = first e in omega (arith, more, fewer, length-take-le i ps (omega arith), length-take-le (i + 1) ps (omega arith))
    | inr ne ↦ omega (arith, more, fewer, length-take-le i ps (omega arith), length-take-le (i + 1) ps (omega arith))
  ]

  -- an item for which there is no room
  pub run_stops : m2 < m1 + of_one now cells p → m2 < m + run_words words cells ps
  run_stops item = omega (arith, more, all, fewer, length-take-le i ps (omega arith))

  -- a connective for which there is none
  pub run_ends : (i ≡ 0 → ⊥) → m2 ≤ m1 + of_one now cells p → m3 ≡ m2 → m3 < m + run_words words cells ps
  run_ends ne item same = omega (arith, more, all, fewer, length-take-le i ps (omega arith))

-- what is put with the unit of a connective folds to the other condition
unit_first : (j : Connective) (words : List ℕ) (d : ℕ) (b : Bool) → nat_eq d (settling_place j) ≡ b → folded_join j words (unit_place j) d ≡ Some d
unit_first connective.And words d true e = rw e (ap (λ x. Some x) (sym (eqb-true d 1 e)))
unit_first connective.And words d false e = rw e refl
unit_first connective.Or words d true e = rw e (ap (λ x. Some x) (sym (eqb-true d 0 e)))
unit_first connective.Or words d false e = rw e refl

pub unit_folds : (j : Connective) (words : List ℕ) (c d : ℕ) → c ≡ unit_place j → folded_join j words c d ≡ Some d
unit_folds j words c d e = ap (λ p. folded_join j words p d) e ∙ unit_first j words d (nat_eq d (settling_place j)) refl

-- what folds is no error
pub folds_ok : {E : Type 0} (fold : Option ℕ) (w : ℕ) (old new : List ℕ) (r : Result ℕ E) (e : E) → is_some fold ≡ true → FoldsTo fold w old new r → r ≡ Err e → ⊥
folds_ok (Some place) w old new r e some h is = let clash : Ok place ≡ Err e = sym h.0 ∙ is in cc
folds_ok None w old new r e some h is = cc
