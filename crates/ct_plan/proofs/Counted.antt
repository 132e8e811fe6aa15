-- Columns counted from the first one on are what they are.
use Rattle.std.proofs.Common.{◌≡◌, ◌-◌, refl, ap, arith}
use Rattle.ct_word.{specs.declared.values.Term.Term, specs.Condition.{Condition, Conditions, True, False, Same, Not, And, Or, none, also}}
use Rattle.ct_plan.specs.Columns.{term_from, counted_from, all_counted_from}
use Rattle.ct_word.specs.declared.values.Term.TheVariants as term

term_none : (t : Term) → term_from 0 t ≡ t
term_none (term.Column k) = let same : k - 0 ≡ k = omega arith in ap term.Column same
term_none (term.Null u) = refl
term_none (term.Value x) = refl

mutual
  pub counted_none : (c : Condition) → counted_from 0 c ≡ c
  counted_none True = refl
  counted_none False = refl
  counted_none (Same s t) = let one = term_none s in let other = term_none t in λ i. Same (one i) (other i)
  counted_none (Not c) = ap Not (counted_none c)
  counted_none (And cs) = ap And (all_counted_none cs)
  counted_none (Or cs) = ap Or (all_counted_none cs)

  all_counted_none : (cs : Conditions) → all_counted_from 0 cs ≡ cs
  all_counted_none none = refl
  all_counted_none (also c cs) = let first = counted_none c in let rest = all_counted_none cs in λ i. also (first i) (rest i)
