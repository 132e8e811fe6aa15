-- Two worlds that give the nulls of a condition the same values give it one truth.
use Rattle.std.proofs.Common.{◌≡◌, not, ◌&&◌, ◌||◌, List, refl, ap, inl, inr}
use Rattle.ct_word.{specs.declared.values.Value.Value, specs.declared.values.Null.Null, specs.declared.values.Term.Term, specs.Named.{IsNamed, IsNamedInSome}}
use Rattle.ct_word.specs.Value.{World, at, same_value, value_of_null}
use Rattle.ct_word.specs.Condition.{Condition, Conditions, True, False, Same, Not, And, Or, none, also, holds, all_hold, any_holds}
use Rattle.ct_word.specs.declared.values.Term.TheVariants as term

module _ (v w : World) (row : List Value) where
  at_agreed : (t : Term) → ((n : Null) → term.Null n ≡ t → value_of_null v n ≡ value_of_null w n) → at v row t ≡ at w row t
  at_agreed (term.Column k) h = refl
  at_agreed (term.Null n) h = h n refl
  at_agreed (term.Value x) h = refl

  mutual
    pub truth_agreed : (c : Condition) → ((n : Null) → IsNamed c (term.Null n) → value_of_null v n ≡ value_of_null w n) → holds v row c ≡ holds w row c
    truth_agreed True h = refl
    truth_agreed False h = refl
    truth_agreed (Same s t) h = λ i. same_value (at_agreed s (λ n e. h n (inl e)) i) (at_agreed t (λ n e. h n (inr e)) i)
    truth_agreed (Not c) h = ap not (truth_agreed c h)
    truth_agreed (And cs) h = all_agreed cs h
    truth_agreed (Or cs) h = any_agreed cs h

    all_agreed : (cs : Conditions) → ((n : Null) → IsNamedInSome cs (term.Null n) → value_of_null v n ≡ value_of_null w n) → all_hold v row cs ≡ all_hold w row cs
    all_agreed none h = refl
    all_agreed (also c cs) h = λ i. truth_agreed c (λ n m. h n (inl m)) i && all_agreed cs (λ n m. h n (inr m)) i

    any_agreed : (cs : Conditions) → ((n : Null) → IsNamedInSome cs (term.Null n) → value_of_null v n ≡ value_of_null w n) → any_holds v row cs ≡ any_holds w row cs
    any_agreed none h = refl
    any_agreed (also c cs) h = λ i. truth_agreed c (λ n m. h n (inl m)) i || any_agreed cs (λ n m. h n (inr m)) i
