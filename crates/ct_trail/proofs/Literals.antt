-- Sameness, opposites and members of clauses.
use Rattle.std.proofs.Common.{◌≡◌, ℕ, zero, suc, ◌<◌, true, ◌||◌, [], ◌∷◌, ◌++◌, length, get_or, refl, ap, ◌∙◌, sym, arith, inl, inr, pos, negsuc, neg_ℤ, ℤ}
use Rattle.std.{specs.Ordering.int_eq, proofs.lemmas.List.Folds.list_any-append, proofs.Math.Bool.or-false, proofs.lemmas.Bool.Decides.Decides-int_eq}
use Rattle.std.proofs.lemmas.Bool.{and_parts, and_from, or_cases, false≢true}
use Rattle.ct_trail.specs.Literal.{Clause, is_literal, is_clause, has}

pub same_is : (l m : ℤ) → int_eq l m ≡ true → l ≡ m
same_is l m e = (Decides-int_eq l m).0 e

pub same_refl : (l : ℤ) → int_eq l l ≡ true
same_refl l = (Decides-int_eq l l).1 refl

pub same_sym : (l m : ℤ) → int_eq l m ≡ true → int_eq m l ≡ true
same_sym l m e = (Decides-int_eq m l).1 (sym (same_is l m e))

pub has_more : (c : Clause) (l m : ℤ) → has (c ++ l ∷ []) m ≡ (has c m || int_eq m l)
unfolding has
has_more c l m = list_any-append (int_eq m) c (l ∷ []) ∙ ap (λ b. has c m || b) (or-false (int_eq m l))

pub opposite_literal : (n : ℕ) (l : ℤ) → is_literal n l ≡ true → is_literal n (neg_ℤ l) ≡ true
opposite_literal n (pos zero) e = e
opposite_literal n (pos (suc k)) e = e
opposite_literal n (negsuc k) e = e

pub literal_of : (n : ℕ) (c : Clause) (l : ℤ) → is_clause n c ≡ true → has c l ≡ true → is_literal n l ≡ true
unfolding is_clause has
literal_of n [] l e h = absurd (false≢true h)
literal_of n (m ∷ c) l e h =
    let parts = and_parts (is_literal n m) (is_clause n c) e in
    elim (or_cases (int_eq l m) (has c l) h) [ inl s ↦ ap (is_literal n) (same_is l m s) ∙ parts.0 | inr t ↦ literal_of n c l parts.1 t ]

pub literal_at : (n : ℕ) (c : Clause) (i : ℕ) (d : ℤ) → is_clause n c ≡ true → i < length c → is_literal n (get_or c i d) ≡ true
unfolding is_clause
literal_at n [] i d e lt = absurd (omega arith)
literal_at n (m ∷ c) zero d e lt = (and_parts (is_literal n m) (is_clause n c) e).0
literal_at n (m ∷ c) (suc i) d e lt = literal_at n c i d (and_parts (is_literal n m) (is_clause n c) e).1 (omega arith)

pub alone_within : (n : ℕ) (l : ℤ) → is_literal n l ≡ true → is_clause n (l ∷ []) ≡ true
unfolding is_clause
alone_within n l w = and_from _ true w refl
