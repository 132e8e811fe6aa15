-- Values put at their keys, which are texts, one after another.
use Rattle.std.proofs.Common.{◌≡◌, ℕ, suc, ◌+◌, Bool, true, false, not, List, [], ◌∷◌, Option, None, Some, cond, map, refl, ap, sym, ◌∙◌, arith}
use Rattle.std.{specs.Prelude.{is_some, nat_eq, if◌then◌else◌}, specs.List.position_or_len, specs.Map.lookup, specs.Cmp.Lexicographic.pointwise}
use Rattle.std.proofs.lemmas.Bool.{false≢true}
use Rattle.indexmap.specs.IndexMap.{insert_entry}
use Rattle.ct_word.{specs.Value.same_text, proofs.Alike.text_decides}

-- by what a test says
pub cases : {P : Type 0} (b : Bool) → (b ≡ true → P) → (b ≡ false → P) → P
cases true t f = t refl
cases false t f = f refl

-- a text that is not written as another: nor the other as it
pub unalike : (a b : List ℕ) → same_text a b ≡ false → same_text b a ≡ false
unalike a b e = cases (same_text b a) (λ p. absurd (false≢true (sym e ∙ (text_decides a b).1 (sym ((text_decides b a).0 p))))) (λ p. p)

pub same_self : (k : List ℕ) → same_text k k ≡ true
same_self k = (text_decides k k).1 refl

pub none_some : {X A : Type 0} (x : X) (o : Option X) → o ≡ None → o ≡ Some x → A
none_some x o n s = let bad : None ≡ Some x = sym n ∙ s in cc

pub missing : {X : Type 0} (o : Option X) → is_some o ≡ false → o ≡ None
missing None e = refl
missing (Some x) e = absurd (false≢true (sym e))

module _ {X : Type 0} where
  -- the value at a key, if there is one
  abbrev pub value_at : List ℕ → List (List ℕ × X) → Option X
  value_at k es = lookup (same_text k) es

  -- the entries with a value at a key
  abbrev pub with_value : List (List ℕ × X) → List ℕ → X → List (List ℕ × X)
  with_value es k x = insert_entry (pointwise nat_eq) es k x

  -- where the entry of a key stands
  abbrev pub place_of : List ℕ → List (List ℕ × X) → ℕ
  place_of k es = position_or_len (same_text k) (map (λ e. e.0) es)

  module _ (k : List ℕ) (x : X) (e : List ℕ × X) (es : List (List ℕ × X)) where
    pub put_hit : same_text k e.0 ≡ true → with_value (e ∷ es) k x ≡ (e.0, x) ∷ es
    put_hit p = ap (λ b. if b then (e.0, x) ∷ es else e ∷ with_value es k x) p

    pub put_miss : same_text k e.0 ≡ false → with_value (e ∷ es) k x ≡ e ∷ with_value es k x
    put_miss p = ap (λ b. if b then (e.0, x) ∷ es else e ∷ with_value es k x) p

  module _ (k : List ℕ) (e : List ℕ × X) (es : List (List ℕ × X)) where
    pub find_hit : same_text k e.0 ≡ true → value_at k (e ∷ es) ≡ Some e.1
    find_hit p = ap (λ b. cond b (Some e.1) (value_at k es)) p

    pub find_miss : same_text k e.0 ≡ false → value_at k (e ∷ es) ≡ value_at k es
    find_miss p = ap (λ b. cond b (Some e.1) (value_at k es)) p

    pub at_hit : same_text k e.0 ≡ true → place_of k (e ∷ es) ≡ 0
    at_hit p = ap (λ b. cond (not b) (1 + place_of k es) 0) p

    pub at_miss : same_text k e.0 ≡ false → place_of k (e ∷ es) ≡ suc (place_of k es)
    at_miss p = let one : 1 + place_of k es ≡ suc (place_of k es) = omega arith in ap (λ b. cond (not b) (1 + place_of k es) 0) p ∙ one

  -- what was put is found
  pub find_put : (k : List ℕ) (x : X) (es : List (List ℕ × X)) → value_at k (with_value es k x) ≡ Some x
  find_put k x [] = find_hit k (k, x) [] (same_self k)
  find_put k x (e ∷ es) = cases (same_text k e.0)
      (λ p. ap (value_at k) (put_hit k x e es p) ∙ find_hit k (e.0, x) es p)
      (λ p. ap (value_at k) (put_miss k x e es p) ∙ find_miss k e (with_value es k x) p ∙ find_put k x es)
