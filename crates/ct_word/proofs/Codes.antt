-- The code of a word's kind.
use Rattle.std.proofs.Common.{◌≡◌, ℕ, ◌+◌, ◌-◌, Bool, true, ◌&&◌, List, [], ◌∷◌, Some, None, nat_eq, refl, ap, ◌∙◌, sym, arith, suc, zero}
use Rattle.std.{specs.Prelude.slice_get, proofs.lemmas.Option.none-some, proofs.lemmas.Bool.{and_parts, eqb-true, eqb-false, cond_both}}
use Rattle.ct_word.{specs.declared.kinds.Kind.Kind, specs.Word.{code_of, all_kinds, kind_with}, proofs.Splits.some-injective}

-- whether the codes of these kinds go up from n by one
abbrev are_numbered : ℕ → List Kind → Bool
are_numbered n [] = true
are_numbered n (k ∷ ks) = nat_eq (code_of k) n && are_numbered (n + 1) ks

by_number : (ks : List Kind) (n j : ℕ) (k : Kind) → are_numbered n ks ≡ true → slice_get ks j ≡ Some k → code_of k ≡ n + j
by_number [] n j k a e = absurd (none-some k e)
by_number (x ∷ ks) n zero k a e = ap code_of (sym (some-injective x k e)) ∙ eqb-true (code_of x) n (and_parts _ _ a).0 ∙ omega arith
by_number (x ∷ ks) n (suc j) k a e = by_number ks (n + 1) j k (and_parts (nat_eq (code_of x) n) _ a).1 e ∙ omega arith

pub code_by : (c : ℕ) (k : Kind) → kind_with c ≡ Some k → code_of k ≡ c
unfolding kind_with
code_by c k e =
    cond_both (nat_eq c 0) None (slice_get all_kinds (c - 1)) (λ o. o ≡ Some k → code_of k ≡ c)
    (λ _. λ f. absurd (none-some k f))
    (λ ne. λ f. let pos : c ≡ 0 → ⊥ = eqb-false c 0 ne in by_number all_kinds 1 (c - 1) k refl f ∙ omega arith)
    e
