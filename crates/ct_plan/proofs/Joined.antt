-- A filter of a product is one of its sides and of what is left.
use Rattle.std.proofs.Common.{◌≡◌, Bool, true, false, cond, ◌&&◌, List, [], ◌∷◌, ◌++◌, map, refl, sym, ap, ◌∙◌}
use Rattle.std.{specs.Prelude.filter, specs.List.AllByRecursion, proofs.lemmas.List.Elements.filter-append}
use Rattle.ct_query.specs.Rows.{joins}

module _ {A : Type 0} (p h : List A → Bool) (f g : List A → Bool) (rs : List (List A)) where
  module _ (l : List A) (splits : (r : List A) → p (l ++ r) ≡ (f l && (g r && h (l ++ r)))) where
    one_by_one : f l ≡ true → (rs : List (List A)) → filter p (map (λ r. l ++ r) rs) ≡ filter h (map (λ r. l ++ r) (filter g rs))
    one_by_one t [] = refl
    one_by_one t (r ∷ rs) =
        let test : p (l ++ r) ≡ (g r && h (l ++ r)) = splits r ∙ ap (λ b. b && (g r && h (l ++ r))) t in
        let rest = one_by_one t rs in
        (λ i. cond (test i) ((l ++ r) ∷ rest i) (rest i)) ∙ by_test (g r) where
          by_test : (b : Bool) → cond (b && h (l ++ r)) ((l ++ r) ∷ filter h (map (λ r. l ++ r) (filter g rs))) (filter h (map (λ r. l ++ r) (filter g rs)))
              ≡ filter h (map (λ r. l ++ r) (cond b (r ∷ filter g rs) (filter g rs)))
          by_test true = refl
          by_test false = refl

    none_of : f l ≡ false → (rs : List (List A)) → filter p (map (λ r. l ++ r) rs) ≡ []
    none_of t [] = refl
    none_of t (r ∷ rs) =
        let test : p (l ++ r) ≡ false = splits r ∙ ap (λ b. b && (g r && h (l ++ r))) t in
        ap (λ b. cond b ((l ++ r) ∷ filter p (map (λ r. l ++ r) rs)) (filter p (map (λ r. l ++ r) rs))) test ∙ none_of t rs

    one_left : (ls : List (List A)) → filter p (joins ls rs) ≡ filter h (joins (filter f ls) (filter g rs))
        → filter p (joins (l ∷ ls) rs) ≡ filter h (joins (cond (f l) (l ∷ filter f ls) (filter f ls)) (filter g rs))
    one_left ls rest = filter-append p (map (λ r. l ++ r) rs) (joins ls rs) ∙ by_test (f l) refl where
      by_test : (b : Bool) → f l ≡ b → (filter p (map (λ r. l ++ r) rs) ++ filter p (joins ls rs)) ≡ filter h (joins (cond b (l ∷ filter f ls) (filter f ls)) (filter g rs))
      by_test true t =
          let first = one_by_one t rs in
          (λ i. first i ++ rest i) ∙ sym (filter-append h (map (λ r. l ++ r) (filter g rs)) (joins (filter f ls) (filter g rs)))
      by_test false t = let first = none_of t rs in λ i. first i ++ rest i

  pub filter_joins : (ls : List (List A)) → AllByRecursion (λ l. (r : List A) → p (l ++ r) ≡ (f l && (g r && h (l ++ r)))) ls
      → filter p (joins ls rs) ≡ filter h (joins (filter f ls) (filter g rs))
  filter_joins [] all = refl
  filter_joins (l ∷ ls) all = one_left l all.0 ls (filter_joins ls all.1)
