-- The values of a world that is laid over another one.
use Rattle.std.proofs.Common.{◌≡◌, Bool, true, false, not, cond, List, [], ◌∷◌, ◌++◌, map, if◌then◌else◌, refl, ap, sym, ◌∙◌}
use Rattle.std.{specs.List.{AllByRecursion, IsDistinct}, proofs.lemmas.Bool.{false≢true}, proofs.lemmas.Map.Made.IsDistinct-keys_filter}
use Rattle.ct_word.{specs.declared.values.Null.Null, specs.Value.{World, other_zero, same_null, value_of_null}}
use Rattle.ct_worlds.{specs.Nulls.{has_null, part_of}, proofs.Agreed.{has_other, part_gives}}
use Rattle.ct_near.specs.Near.{laid_over, rest_of}

module _ (ns : List Null) where
  -- a null that is not kept has none
  part_without : (v : World) (n : Null) → has_null ns n ≡ false → value_of_null (part_of ns v) n ≡ other_zero
  part_without [] n k = refl
  part_without (p ∷ v) n k = by (has_null ns p.0) refl (part_without v n k) where
    by : (b : Bool) → has_null ns p.0 ≡ b → value_of_null (part_of ns v) n ≡ other_zero → value_of_null (cond b (p ∷ part_of ns v) (part_of ns v)) n ≡ other_zero
    by false e rest = rest
    by true e rest = ap (λ b. if b then p.1 else value_of_null (part_of ns v) n) (has_other ns p.0 n true false e k (λ q. false≢true (sym q))) ∙ rest

  -- another null keeps its value
  pub others_stay : (v w : World) (n : Null) → has_null ns n ≡ false → value_of_null (laid_over ns v w) n ≡ value_of_null v n
  others_stay [] w n k = part_without w n k
  others_stay (p ∷ v) w n k = by (has_null ns p.0) refl (others_stay v w n k) where
    by : (b : Bool) → has_null ns p.0 ≡ b → value_of_null (laid_over ns v w) n ≡ value_of_null v n
        → value_of_null (cond (not b) (p ∷ rest_of ns v) (rest_of ns v) ++ part_of ns w) n ≡ value_of_null (p ∷ v) n
    by false e rest = ap (λ x. if same_null p.0 n then p.1 else x) rest
    by true e rest = rest ∙ sym (ap (λ b. if b then p.1 else value_of_null v n) (has_other ns p.0 n true false e k (λ q. false≢true (sym q))))

  -- a null that is laid over has its new value
  pub new_gives : (v w : World) (n : Null) → has_null ns n ≡ true → value_of_null (laid_over ns v w) n ≡ value_of_null w n
  new_gives [] w n k = part_gives ns w n k
  new_gives (p ∷ v) w n k = by (has_null ns p.0) refl (new_gives v w n k) where
    by : (b : Bool) → has_null ns p.0 ≡ b → value_of_null (laid_over ns v w) n ≡ value_of_null w n
        → value_of_null (cond (not b) (p ∷ rest_of ns v) (rest_of ns v) ++ part_of ns w) n ≡ value_of_null w n
    by true e rest = rest
    by false e rest = ap (λ b. if b then p.1 else value_of_null (laid_over ns v w) n) (has_other ns p.0 n false true e k false≢true) ∙ rest

  abbrev pub names : World → List Null
  names v = map (λ p. p.0) v

  apart_part : (m : Null) (w : World) → has_null ns m ≡ false → AllByRecursion (λ n. same_null m n ≡ false) (names (part_of ns w))
  apart_part m [] k = tt
  apart_part m (p ∷ w) k = by (has_null ns p.0) refl (apart_part m w k) where
    by : (b : Bool) → has_null ns p.0 ≡ b → AllByRecursion (λ n. same_null m n ≡ false) (names (part_of ns w))
        → AllByRecursion (λ n. same_null m n ≡ false) (names (cond b (p ∷ part_of ns w) (part_of ns w)))
    by false e rest = rest
    by true e rest = (has_other ns m p.0 false true k e false≢true, rest)

  apart_more : (m : Null) (xs ys : World) → AllByRecursion (λ n. same_null m n ≡ false) (names xs) → AllByRecursion (λ n. same_null m n ≡ false) (names ys)
      → AllByRecursion (λ n. same_null m n ≡ false) (names (xs ++ ys))
  apart_more m [] ys a b = b
  apart_more m (x ∷ xs) ys a b = (a.0, apart_more m xs ys a.1 b)

  once_after : (v w : World) → IsDistinct same_null (names (rest_of ns v)) → IsDistinct same_null (names (part_of ns w)) → IsDistinct same_null (names (laid_over ns v w))
  unfolding IsDistinct
  once_after [] w d e = e
  once_after (p ∷ v) w d e = by (has_null ns p.0) refl d (λ f. once_after v w f e) where
    by : (b : Bool) → has_null ns p.0 ≡ b → IsDistinct same_null (names (cond (not b) (p ∷ rest_of ns v) (rest_of ns v)))
        → (IsDistinct same_null (names (rest_of ns v)) → IsDistinct same_null (names (laid_over ns v w)))
        → IsDistinct same_null (names (cond (not b) (p ∷ rest_of ns v) (rest_of ns v) ++ part_of ns w))
    by true k f rest = rest f
    by false k f rest = (apart_more p.0 (rest_of ns v) (part_of ns w) f.0 (apart_part p.0 w k), rest f.1)

  -- and no null stands twice
  pub over_once : (v w : World) → IsDistinct same_null (names v) → IsDistinct same_null (names w) → IsDistinct same_null (names (laid_over ns v w))
  over_once v w d e = once_after v w (IsDistinct-keys_filter same_null (λ p. not (has_null ns p.0)) v d) (IsDistinct-keys_filter same_null (λ p. has_null ns p.0) w e)
