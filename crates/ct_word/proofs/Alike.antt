-- What is written alike is equal, and the other way round.
use Rattle.std.{proofs.Common.{◌≡◌, ℕ, true, List, refl, ap, subst}, specs.Bool.Decides, proofs.lemmas.Bool.{and_parts, and_from, eqb-true, eq-eqb, false≢true}}
use Rattle.std.{proofs.lemmas.Bool.Decides.{Decides-int_eq, Decides-eqb}, proofs.lemmas.Slice.Eq.slice_eq-Decides, specs.Prelude.nat_eq}
use Rattle.ct_word.{specs.declared.values.Value.Value, specs.declared.values.Null.Null, specs.declared.values.Term.Term}
use Rattle.ct_word.specs.Value.{same_text, same_value, same_null, same_term, same_cells, same_tuple}
use Rattle.ct_word.specs.declared.values.Value.TheVariants as val
use Rattle.ct_word.specs.declared.values.Null.TheVariants as null
use Rattle.ct_word.specs.declared.values.Term.TheVariants as term

pub text_decides : (a b : List ℕ) → Decides (same_text a b) (a ≡ b)
text_decides a b = slice_eq-Decides Decides-eqb a b (same_text a b) refl

value_is : (x y : Value) → same_value x y ≡ true → x ≡ y
value_is (val.Int a) (val.Int b) e = ap val.Int ((Decides-int_eq a b).0 e)
value_is (val.Text a) (val.Text b) e = ap val.Text ((text_decides a b).0 e)
value_is (val.Other a) (val.Other b) e = ap val.Other (eqb-true a b e)
value_is _ _ e = absurd (false≢true e)

value_self : (x : Value) → same_value x x ≡ true
value_self (val.Int a) = (Decides-int_eq a a).1 refl
value_self (val.Text a) = (text_decides a a).1 refl
value_self (val.Other a) = eq-eqb a a refl

pub value_decides : (x y : Value) → Decides (same_value x y) (x ≡ y)
value_decides x y = (value_is x y, λ e. subst (λ z. same_value x z ≡ true) e (value_self x))

null_is : (m n : Null) → same_null m n ≡ true → m ≡ n
null_is (null.Named a) (null.Named b) e = ap null.Named ((text_decides a b).0 e)
null_is (null.Fresh s m) (null.Fresh t n) e =
    let parts = and_parts (nat_eq s t) (nat_eq m n) e in
    λ i. null.Fresh (eqb-true s t parts.0 i) (eqb-true m n parts.1 i)
null_is _ _ e = absurd (false≢true e)

null_self : (n : Null) → same_null n n ≡ true
null_self (null.Named a) = (text_decides a a).1 refl
null_self (null.Fresh s m) = and_from (nat_eq s s) (nat_eq m m) (eq-eqb s s refl) (eq-eqb m m refl)

pub null_decides : (m n : Null) → Decides (same_null m n) (m ≡ n)
null_decides m n = (null_is m n, λ e. subst (λ z. same_null m z ≡ true) e (null_self m))

term_is : (s t : Term) → same_term s t ≡ true → s ≡ t
term_is (term.Column j) (term.Column k) e = ap term.Column (eqb-true j k e)
term_is (term.Null m) (term.Null n) e = ap term.Null (null_is m n e)
term_is (term.Value x) (term.Value y) e = ap term.Value (value_is x y e)
term_is _ _ e = absurd (false≢true e)

term_self : (t : Term) → same_term t t ≡ true
term_self (term.Column k) = eq-eqb k k refl
term_self (term.Null n) = null_self n
term_self (term.Value x) = value_self x

pub term_decides : (s t : Term) → Decides (same_term s t) (s ≡ t)
term_decides s t = (term_is s t, λ e. subst (λ z. same_term s z ≡ true) e (term_self s))

pub cells_decide : (a b : List Term) → Decides (same_cells a b) (a ≡ b)
cells_decide a b = slice_eq-Decides term_decides a b (same_cells a b) refl

pub tuple_decides : (a b : List Value) → Decides (same_tuple a b) (a ≡ b)
tuple_decides a b = slice_eq-Decides value_decides a b (same_tuple a b) refl
