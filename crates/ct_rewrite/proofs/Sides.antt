-- The order of terms: two that differ stand in it one way.
use Rattle.std.{proofs.Common.{◌≡◌, Bool, true, false, ◌&&◌, ◌||◌, nat_eq, nat_lt, refl, ap, sym, ◌∙◌}, specs.Prelude.{IsTrue, cond, ℕ, int_lt}}
use Rattle.std.{specs.declared.cmp.Ordering.Ordering, specs.declared.cmp.Ordering.TheVariants.{Less, Equal, Greater}, specs.Cmp.then_flip}
use Rattle.std.{specs.Ordering.{nat_cmp, int_cmp, ordering_then, ordering_reverse, is_lt, is_eq}, proofs.lemmas.Bool.false≢true}
use Rattle.std.{proofs.lemmas.Cmp.{nat_cmp_total, int_cmp_total, nat_list_cmp_total}, proofs.lemmas.Map.Lookups.{exact_unsigned, exact_signed, exact_bytes}}
use Rattle.ct_word.{specs.declared.values.Value.Value, specs.declared.values.Null.Null, specs.declared.values.Term.Term}
use Rattle.ct_rewrite.specs.Order.{null_order, value_order, term_order, is_before}
use Rattle.ct_word.specs.declared.values.Value.TheVariants as val
use Rattle.ct_word.specs.declared.values.Null.TheVariants as null
use Rattle.ct_word.specs.declared.values.Term.TheVariants as term

pub null_turned : (m n : Null) → null_order m n ≡ ordering_reverse (null_order n m)
null_turned (null.Named t) (null.Named u) = nat_list_cmp_total.antisymm t u
null_turned (null.Fresh s m) (null.Fresh t n) = (λ i. ordering_then (nat_cmp_total.antisymm s t i) (nat_cmp_total.antisymm m n i)) ∙ then_flip _ _
null_turned _ _ = refl

value_turned : (x y : Value) → value_order x y ≡ ordering_reverse (value_order y x)
value_turned (val.Int i) (val.Int j) = int_cmp_total.antisymm i j
value_turned (val.Text t) (val.Text u) = nat_list_cmp_total.antisymm t u
value_turned (val.Other j) (val.Other k) = nat_cmp_total.antisymm j k
value_turned _ _ = refl

turned : (s t : Term) → term_order s t ≡ ordering_reverse (term_order t s)
turned (term.Column j) (term.Column k) = nat_cmp_total.antisymm j k
turned (term.Null m) (term.Null n) = null_turned m n
turned (term.Value x) (term.Value y) = value_turned x y
turned _ _ = refl

both_equal : (a b : Ordering) → ordering_then a b ≡ Equal → (a ≡ Equal) × (b ≡ Equal)
both_equal Equal b e = (refl, e)
both_equal Less b e = absurd (false≢true (ap is_eq e))
both_equal Greater b e = absurd (false≢true (ap is_eq e))

pub exact_null : (m n : Null) → null_order m n ≡ Equal → m ≡ n
exact_null (null.Named t) (null.Named u) e = ap null.Named (exact_bytes t u e)
exact_null (null.Fresh s m) (null.Fresh t n) e = let p = both_equal _ _ e in λ i. null.Fresh (exact_unsigned s t p.0 i) (exact_unsigned m n p.1 i)
exact_null _ _ e = absurd (false≢true (ap is_eq e))

exact_value : (x y : Value) → value_order x y ≡ Equal → x ≡ y
exact_value (val.Int i) (val.Int j) e = ap val.Int (exact_signed i j e)
exact_value (val.Text t) (val.Text u) e = ap val.Text (exact_bytes t u e)
exact_value (val.Other i) (val.Other j) e = ap val.Other (exact_unsigned i j e)
exact_value _ _ e = absurd (false≢true (ap is_eq e))

-- terms of which none is smaller are one
exact : (s t : Term) → term_order s t ≡ Equal → s ≡ t
exact (term.Column i) (term.Column j) e = ap term.Column (exact_unsigned i j e)
exact (term.Null m) (term.Null n) e = ap term.Null (exact_null m n e)
exact (term.Value x) (term.Value y) e = ap term.Value (exact_value x y e)
exact _ _ e = absurd (false≢true (ap is_eq e))

-- the comparisons of numbers, by less and equal
less_first : (a b : Bool) (o : Ordering) → is_lt (ordering_then (cond a Less (cond b Equal Greater)) o) ≡ (a || (b && is_lt o))
less_first true b o = refl
less_first false true o = refl
less_first false false o = refl

less_nat : (j k : ℕ) → is_lt (nat_cmp j k) ≡ nat_lt j k
less_nat j k = less (nat_lt j k) (nat_eq j k) where
  less : (a b : Bool) → is_lt (cond a Less (cond b Equal Greater)) ≡ a
  less true b = refl
  less false true = refl
  less false false = refl

less_int : (i j : _) → is_lt (int_cmp i j) ≡ int_lt i j
less_int i j = less (int_lt i j) (int_lt j i) where
  less : (a b : Bool) → is_lt (cond a Less (cond b Greater Equal)) ≡ a
  less true b = refl
  less false true = refl
  less false false = refl

less_null : (m n : Null) → is_lt (null_order m n) ≡ is_before (term.Null m) (term.Null n)
less_null (null.Named t) (null.Named u) = refl
less_null (null.Fresh s m) (null.Fresh t n) = less_first (nat_lt s t) (nat_eq s t) (nat_cmp m n) ∙ ap (λ b. nat_lt s t || (nat_eq s t && b)) (less_nat m n)
less_null _ _ = refl

less_value : (x y : Value) → is_lt (value_order x y) ≡ is_before (term.Value x) (term.Value y)
less_value (val.Int i) (val.Int j) = less_int i j
less_value (val.Text t) (val.Text u) = refl
less_value (val.Other j) (val.Other k) = less_nat j k
less_value _ _ = refl

-- a column or null and a value, either way
null_value : (n : Null) (x : Value) → (true ≡ is_before (term.Null n) (term.Value x)) × (false ≡ is_before (term.Value x) (term.Null n))
null_value (null.Named t) (val.Int i) = (refl, refl)
null_value (null.Named t) (val.Text u) = (refl, refl)
null_value (null.Named t) (val.Other k) = (refl, refl)
null_value (null.Fresh s m) (val.Int i) = (refl, refl)
null_value (null.Fresh s m) (val.Text u) = (refl, refl)
null_value (null.Fresh s m) (val.Other k) = (refl, refl)

column_value : (j : ℕ) (x : Value) → (true ≡ is_before (term.Column j) (term.Value x)) × (false ≡ is_before (term.Value x) (term.Column j))
column_value j (val.Int i) = (refl, refl)
column_value j (val.Text u) = (refl, refl)
column_value j (val.Other k) = (refl, refl)

column_null : (j : ℕ) (n : Null) → (true ≡ is_before (term.Column j) (term.Null n)) × (false ≡ is_before (term.Null n) (term.Column j))
column_null j (null.Named t) = (refl, refl)
column_null j (null.Fresh s m) = (refl, refl)

-- the comparison of terms answers that one is smaller where it is
pub less_term : (s t : Term) → is_lt (term_order s t) ≡ is_before s t
less_term (term.Column j) (term.Column k) = less_nat j k
less_term (term.Null m) (term.Null n) = less_null m n
less_term (term.Value x) (term.Value y) = less_value x y
less_term (term.Column j) (term.Null n) = (column_null j n).0
less_term (term.Null n) (term.Column j) = (column_null j n).1
less_term (term.Column j) (term.Value x) = (column_value j x).0
less_term (term.Value x) (term.Column j) = (column_value j x).1
less_term (term.Null n) (term.Value x) = (null_value n x).0
less_term (term.Value x) (term.Null n) = (null_value n x).1

pub not_less : (o : Ordering) → (o ≡ Less → ⊥) → is_lt o ≡ false
not_less Less f = absurd (f refl)
not_less Equal f = refl
not_less Greater f = refl

-- of two terms that differ, one is smaller where the other is not
pub other_before : (s t : Term) → (s ≡ t → ⊥) → is_before t s ≡ false → IsTrue (is_before s t)
other_before s t differ high = sym (less_term s t) ∙ decide (term_order s t) refl where
  decide : (o : Ordering) → term_order s t ≡ o → is_lt (term_order s t) ≡ true
  decide Less e = ap is_lt e
  decide Equal e = absurd (differ (exact s t e))
  decide Greater e = absurd (false≢true (sym high ∙ sym (less_term t s) ∙ ap is_lt (turned t s ∙ ap ordering_reverse e)))
