-- A map of the values that a world lists.
use Rattle.std.proofs.Common.{◌≡◌, ◌<◌, ◌≤◌, ◌-◌, ℕ, suc, Bool, true, false, [], ◌∷◌, length, drop, get_or, Option, Some, None, cond, refl, ap, sym, subst, ◌∙◌, arith, if◌then◌else◌}
use Rattle.std.{proofs.Math.Seq.drop-cons, specs.Map.lookup}
use Rattle.ct_word.{specs.declared.values.Value.Value, specs.declared.values.Null.Null, specs.Value.{World, same_null, other_zero, value_of_null}}
use Rattle.ct_tidy.{specs.Order.{IsMapOf, listed}, proofs.Gathered.compared}
use Rattle.ct_word.specs.contracts.values.NullPartialEq.TheImpl as null_code

-- the value of a null that may be listed
abbrev or_zero : Option Value → Value
or_zero (Some x) = x
or_zero None = other_zero

of_listed : (v : World) (n : Null) → value_of_null v n ≡ or_zero (listed v n)
of_listed [] n = refl
of_listed (p ∷ v) n = by (same_null p.0 n) (of_listed v n) where
  by : (b : Bool) → value_of_null v n ≡ or_zero (listed v n) → (if b then p.1 else value_of_null v n) ≡ or_zero (if b then Some p.1 else listed v n)
  by true rest = refl
  by false rest = rest

-- what is found in the map, or not, is the value of the null
module _ (entries v : World) (is : IsMapOf entries v) (n : Null) where
  looked_up : lookup (null_code.ghosts.eq n) entries ≡ listed v n
  looked_up = subst (λ eq. lookup (eq n) entries ≡ listed v n) (sym compared) (is n)

  pub value_found : (x : Value) → Some x ≡ lookup (null_code.ghosts.eq n) entries → x ≡ value_of_null v n
  value_found x e = ap or_zero (e ∙ looked_up) ∙ sym (of_listed v n)

  pub value_lacking : None ≡ lookup (null_code.ghosts.eq n) entries → other_zero ≡ value_of_null v n
  value_lacking e = ap or_zero (e ∙ looked_up) ∙ sym (of_listed v n)

-- one more pair, the last of those before the others
pub map_turn : (old new v : World) (k : ℕ) (p : Null × Value) (m : Null) (x : Value) → 0 < k → k ≤ length v → p ≡ get_or v (k - 1) p → m ≡ p.0 → x ≡ p.1 → IsMapOf old (drop k v)
    → ((q : Null) → lookup (null_code.ghosts.eq q) new ≡ cond (null_code.ghosts.eq m q) (Some x) (lookup (null_code.ghosts.eq q) old)) → IsMapOf new (drop (k - 1) v)
map_turn old new v k p m x some most e same value so_far put n =
    let i = k - 1 in
    let next : k ≡ suc i = omega (arith, some) in
    subst (λ eq. lookup (eq n) new ≡ cond (eq m n) (Some x) (lookup (eq n) old)) compared (put n)
    ∙ (λ j. cond (same_null (same j) n) (Some (value j)) (so_far n j))
    ∙ (λ j. listed (e j ∷ drop (next j) v) n)
    ∙ sym (ap (λ w. listed w n) (drop-cons v i p (omega (arith, some, most))))
