-- What a predicate over a list of predicates is, and what it means, said of the list.
use Rattle.std.{proofs.Common.{◌≡◌, ◌+◌, ◌-◌, ◌&&◌, ◌||◌, List, [], ◌∷◌, map, length, refl, ap, ◌∙◌, arith}, specs.List.{list_all, list_any}}
use Rattle.ct_word.{specs.declared.values.Value.Value, specs.Value.World, specs.Condition.{holds, all_hold, any_holds, listed, also}}
use Rattle.ct_query.specs.declared.query.Pred.{Pred, And, Or, And', Row_of-Pred, end_of-Pred, more_of-Pred, items-the_row-Pred, items_hidden-the_row-Pred-0}
use Rattle.ct_query.{specs.Pred.{condition_of, conditions_of}, specs.Bounds.connectives}
use mathlib.Core.Former.{Count}
use Rattle.ct_word.specs.Condition as condition

-- the items of an And, as the type has them
abbrev pub row_of : Pred → (n : Count) × Row_of-Pred n
row_of (And' _ row) = (_, row)
row_of _ = (_, end_of-Pred)

pub listed_row : (n : _) (row : Row_of-Pred n) → conditions_of row ≡ listed (map condition_of (items-the_row-Pred n row))
listed_row n end_of-Pred = refl
listed_row n (more_of-Pred c rest) = ap (also (condition_of c)) (listed_row _ rest)

list_is : (cs : List Pred) → conditions_of (row_of (And cs)).1 ≡ listed (map condition_of cs)
list_is cs = let row = row_of (And cs) in listed_row row.0 row.1 ∙ ap (λ ds. listed (map condition_of ds)) (items_hidden-the_row-Pred-0 cs)

pub and_is : (cs : List Pred) → condition_of (And cs) ≡ condition.And (listed (map condition_of cs))
and_is cs = ap condition.And (list_is cs)

pub or_is : (cs : List Pred) → condition_of (Or cs) ≡ condition.Or (listed (map condition_of cs))
or_is cs = ap condition.Or (list_is cs)

module _ (v : World) (r : List Value) where
  all_of_row : (n : _) (row : Row_of-Pred n) → all_hold v r (conditions_of row) ≡ list_all (λ c. holds v r (condition_of c)) (items-the_row-Pred n row)
  all_of_row n end_of-Pred = refl
  all_of_row n (more_of-Pred c rest) = ap (λ b. holds v r (condition_of c) && b) (all_of_row _ rest)

  any_of_row : (n : _) (row : Row_of-Pred n) → any_holds v r (conditions_of row) ≡ list_any (λ c. holds v r (condition_of c)) (items-the_row-Pred n row)
  any_of_row n end_of-Pred = refl
  any_of_row n (more_of-Pred c rest) = ap (λ b. holds v r (condition_of c) || b) (any_of_row _ rest)

  pub holds_and : (cs : List Pred) → holds v r (condition_of (And cs)) ≡ list_all (λ c. holds v r (condition_of c)) cs
  holds_and cs =
      let row = row_of (And cs) in
      all_of_row row.0 row.1 ∙ ap (list_all (λ c. holds v r (condition_of c))) (items_hidden-the_row-Pred-0 cs)

  pub holds_or : (cs : List Pred) → holds v r (condition_of (Or cs)) ≡ list_any (λ c. holds v r (condition_of c)) cs
  holds_or cs =
      let row = row_of (And cs) in
      any_of_row row.0 row.1 ∙ ap (list_any (λ c. holds v r (condition_of c))) (items_hidden-the_row-Pred-0 cs)

-- a run has a connective less than items
pub run_connectives : (cs : List Pred) → connectives (listed (map condition_of cs)) ≡ length cs - 1
run_connectives [] = refl
run_connectives (c ∷ []) = refl
run_connectives (c ∷ d ∷ cs) = ap (λ n. n + 1) (run_connectives (d ∷ cs)) ∙ omega arith
