-- The greatest number of a query and of its parts.
use Rattle.std.{proofs.Common.{◌≡◌, ℕ, List, [], ◌∷◌, ◌++◌, map, max, ap, sym, ◌∙◌, arith}, specs.List.fold, proofs.lemmas.List.map-append}
use Rattle.ct_query.{specs.Plain.PlainQuery, specs.Size.{number, parts, size, stopped}}

greatest_from : (n : ℕ) (xs : List ℕ) → fold max n xs ≡ max n (fold max 0 xs)
greatest_from n [] = omega arith
greatest_from n (x ∷ xs) = greatest_from (max n x) xs ∙ omega arith ∙ ap (max n) (sym (greatest_from (max 0 x) xs))

greatest_append : (n : ℕ) (xs ys : List ℕ) → fold max n (xs ++ ys) ≡ max (max n (fold max 0 xs)) (fold max 0 ys)
greatest_append n [] ys = greatest_from n ys ∙ omega arith
greatest_append n (x ∷ xs) ys = greatest_append (max n x) xs ys ∙ omega arith ∙ ap (λ m. max (max n m) (fold max 0 ys)) (sym (greatest_from (max 0 x) xs))

module _ (counts : List ℕ → ℕ) where
  pub one_part : (q a : PlainQuery) → stopped (fold max 0 (map (number counts) (q ∷ parts a))) ≡ max (stopped (number counts q)) (stopped (size counts a))
  one_part q a = ap stopped (greatest_from (max 0 (number counts q)) (map (number counts) (parts a))) ∙ omega arith

  pub two_parts : (q a b : PlainQuery)
      → stopped (fold max 0 (map (number counts) (q ∷ parts a ++ parts b))) ≡ max (max (stopped (number counts q)) (stopped (size counts a))) (stopped (size counts b))
  two_parts q a b =
      ap (λ ns. stopped (fold max (max 0 (number counts q)) ns)) (map-append (number counts) (parts a) (parts b))
      ∙ ap stopped (greatest_append (max 0 (number counts q)) (map (number counts) (parts a)) (map (number counts) (parts b))) ∙ omega arith
