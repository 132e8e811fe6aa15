-- Names with positions, list by list.
use Rattle.std.proofs.Common.{◌≡◌, ◌+◌, ℕ, List, [], ◌∷◌, ◌++◌, length, refl, ap, sym, ◌∙◌, arith}
use Rattle.ct_resolve.specs.Queries.{Picked, numbered}

-- the positions go on behind the first list
pub numbered_both : (k : ℕ) (xs ys : List (List ℕ)) → numbered k (xs ++ ys) ≡ numbered k xs ++ numbered (k + length xs) ys
numbered_both k [] ys = ap (λ n. numbered n ys) (omega arith)
numbered_both k (x ∷ xs) ys = ap (λ ps. (k, x) ∷ ps) (numbered_both (k + 1) xs ys ∙ ap (λ n. numbered (k + 1) xs ++ numbered n ys) (omega arith))

-- one table more
pub table_picked : {new : List Picked} {n : ℕ} (old : List Picked) (k : ℕ) (xs ys : List (List ℕ)) → new ≡ old ++ numbered k xs → n ≡ k + length xs
    → new ++ numbered n ys ≡ old ++ numbered k (xs ++ ys)
table_picked {n = n} old k xs ys e f =
    ap (λ ps. ps ++ numbered n ys) e ∙ ap (λ m. (old ++ numbered k xs) ++ numbered m ys) f ∙ assoc old (numbered k xs) (numbered (k + length xs) ys)
    ∙ ap (λ ps. old ++ ps) (sym (numbered_both k xs ys)) where
      assoc : {A : Type 0} (xs ys zs : List A) → (xs ++ ys) ++ zs ≡ xs ++ (ys ++ zs)
      assoc [] ys zs = refl
      assoc (x ∷ xs) ys zs = ap (λ ws. x ∷ ws) (assoc xs ys zs)
