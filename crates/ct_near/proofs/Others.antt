-- The values `@k` of a world.
use Rattle.std.proofs.Common.{Equal, Greater, Less, ◌≡◌, ◌<◌, ◌≤◌, ◌^◌, ◌+◌, ℕ, [], ◌∷◌, ◌++◌, length, get_or, map, take, refl, subst, arith, ap, sym, ◌∙◌, inl, inr}
use Rattle.std.{specs.Prelude.{◌==◌, Bool, true, false, cond, nat_lt, Contains}, specs.Ordering.{is_lt, nat_cmp, ord_max}, proofs.lemmas.Bool.{ltb-true, ltb-false}, proofs.lemmas.List.{map-append, take_all, take_more}, proofs.lemmas.List.Elements.Contains-push_cases}
use Rattle.ct_word.{specs.declared.values.{Null.Null, Value.Value}, specs.Value.World}
use Rattle.ct_near.specs.Near.{IsPastOthers}
use Rattle.ct_word.specs.declared.values.Value.TheVariants as val

-- all pairs
pub past_all : (pairs items : World) (i next : ℕ) → items ≡ pairs → length items ≤ i → IsPastOthers (take i pairs) next → IsPastOthers pairs next
past_all pairs items i next same le past = subst (λ v. IsPastOthers v next) (take_all i pairs (subst (λ l. length l ≤ i) same le)) past

-- the greater of two numbers
greater : (a b : ℕ) → (a ≤ ord_max nat_cmp a b) × (b ≤ ord_max nat_cmp a b)
greater a b = by (nat_lt b a) refl where
  of_rest : (t : Bool) → a ≤ b → (a ≤ cond (is_lt (cond t Equal Greater)) a b) × (b ≤ cond (is_lt (cond t Equal Greater)) a b)
  of_rest true le = (le, omega arith)
  of_rest false le = (le, omega arith)

  by : (t : Bool) → nat_lt b a ≡ t → (a ≤ cond (is_lt (cond t Less (cond (b == a) Equal Greater))) a b) × (b ≤ cond (is_lt (cond t Less (cond (b == a) Equal Greater))) a b)
  by true e = let less = ltb-true b a e in (omega arith, omega (arith, less))
  by false e = let least = ltb-false b a e in of_rest (b == a) (omega (arith, least))

-- one more pair
pub past_more : (pairs items : World) (i : ℕ) (p : Null × Value) (next after most : ℕ) → items ≡ pairs → i < length items → p ≡ get_or items i p → IsPastOthers (take i pairs) next
    → ((k : ℕ) → k < 2 ^ 28 → p.1 ≡ val.Other k → k < after) → most ≡ ord_max nat_cmp next after → IsPastOthers (take (i + 1) pairs) most
past_more pairs items i p next after most same lt is so_far one top k few h =
    let up = subst (λ m. (next ≤ m) × (after ≤ m)) (sym top) (greater next after) in
    let first = up.0 in
    let second = up.1 in
    elim (Contains-push_cases (map (λ q. q.1) (take i pairs)) p.1 (val.Other k) (subst (λ l. Contains l (val.Other k)) more h)) [
      | inl there ↦ let less = so_far k few there in omega (arith, less, first)
      | inr same ↦ let less = one k few same in omega (arith, less, second)
    ] where
      more : map (λ q. q.1) (take (i + 1) pairs) ≡ map (λ q. q.1) (take i pairs) ++ p.1 ∷ []
      more = ap (map (λ q. q.1)) (take_more pairs i p (subst (λ l. i < length l) same lt) ∙ ap (λ q. take i pairs ++ q ∷ []) (sym (subst (λ l. p ≡ get_or l i p) same is))) ∙ map-append (λ q. q.1) (take i pairs) (p ∷ [])
