-- When the numbers of a condition on a row are as the fields of words ask.
use Rattle.std.proofs.Common.{◌≤◌, ◌^◌, ℕ, arith}
use Rattle.ct_word.{specs.declared.values.Term.Term, specs.Condition.{Condition, Conditions, True, False, Same, Not, And, Or, none, also}}
use Rattle.ct_query.specs.Fields.{FitsFields, AreFitting, AreAllFitting, FitsFieldsOn, AreFittingOn, AreAllFittingOn}
use Rattle.ct_query.specs.Fits.{IsColumnBelow, AreColumnsBelow, AreAllColumnsBelow, FitsRows}
use Rattle.ct_word.specs.declared.values.Term.TheVariants as term

-- numbers that fit do so on every row
pub term_on : (n : ℕ) (t : Term) → FitsFields t → FitsFieldsOn n t
term_on n (term.Column k) f = λ _. f
term_on n (term.Null u) f = f
term_on n (term.Value x) f = f

mutual
  pub condition_on : (n : ℕ) (c : Condition) → AreFitting c → AreFittingOn n c
  condition_on n True f = tt
  condition_on n False f = tt
  condition_on n (Same s t) f = (term_on n s f.0, term_on n t f.1)
  condition_on n (Not c) f = condition_on n c f
  condition_on n (And cs) f = conditions_on n cs f
  condition_on n (Or cs) f = conditions_on n cs f

  conditions_on : (n : ℕ) (cs : Conditions) → AreAllFitting cs → AreAllFittingOn n cs
  conditions_on n none f = tt
  conditions_on n (also c cs) f = (condition_on n c f.0, conditions_on n cs f.1)

-- those that fit rows of no more than 2^28 cells fit
pub below_fits : (n : ℕ) (t : Term) → n ≤ 2 ^ 28 → FitsFieldsOn n t → IsColumnBelow n t → FitsFields t
below_fits n (term.Column k) small f l = omega (arith, small, l)
below_fits n (term.Null u) small f l = f
below_fits n (term.Value x) small f l = f

mutual
  all_below : (n : ℕ) (c : Condition) → n ≤ 2 ^ 28 → AreFittingOn n c → AreColumnsBelow n c → AreFitting c
  all_below n True small f l = tt
  all_below n False small f l = tt
  all_below n (Same s t) small f l = (below_fits n s small f.0 l.0, below_fits n t small f.1 l.1)
  all_below n (Not c) small f l = all_below n c small f l
  all_below n (And cs) small f l = each_below n cs small f l
  all_below n (Or cs) small f l = each_below n cs small f l

  each_below : (n : ℕ) (cs : Conditions) → n ≤ 2 ^ 28 → AreAllFittingOn n cs → AreAllColumnsBelow n cs → AreAllFitting cs
  each_below n none small f l = tt
  each_below n (also c cs) small f l = (all_below n c small f.0 l.0, each_below n cs small f.1 l.1)

pub narrow_fits : (n : ℕ) (c : Condition) → n ≤ 2 ^ 28 → FitsRows n c → AreFitting c
narrow_fits n c small f = all_below n c small f.fields f.columns
