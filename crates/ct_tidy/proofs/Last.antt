-- A pair that is put last: its null comes after all others, or is that of the last one.
use Rattle.std.proofs.Common.{◌≡◌, ◌<◌, ◌≤◌, ◌+◌, ◌++◌, take, drop, drop-cons, subst, ℕ, zero, suc, Bool, true, false, not, ◌&&◌, List, [], ◌∷◌, length, get_or, refl, ap, sym, ◌∙◌, arith}
use Rattle.std.{specs.Prelude.if◌then◌else◌, proofs.lemmas.List.drop_all, specs.List.list_all, specs.List.Sorted.IsSortedBy, specs.declared.cmp.Ordering.Ordering}
use Rattle.std.specs.declared.cmp.Ordering.TheVariants.{Less, Equal, Greater}
use Rattle.std.{specs.Ordering.{ordering_reverse, is_eq, is_lt}, proofs.lemmas.Bool.{and_parts, and_from, false≢true}, proofs.lemmas.List.Sorted.sorted_far}
use Rattle.ct_word.{specs.declared.values.Value.Value, specs.declared.values.Null.Null, specs.Value.{World, same_value, other_zero, value_of_null}}
use Rattle.ct_rewrite.{specs.Order.null_order, specs.Tidy.{IsTidy, has_no_zero, null_before, are_ascending}, proofs.Sides.{null_turned, exact_null}}
use Rattle.ct_tidy.{specs.Order.{by_order, put, with_null, with_nulls, are_up_to, ends_with}, proofs.Ordered.{before_more, less_of, null_ranks, put_all}}

-- an order is not before and not not before
neither : (o : Ordering) → not (is_lt o) ≡ true → o ≡ Less → {X : Type 0} → X
neither o other e = absurd (false≢true (sym (ap (λ r. not (is_lt r)) e) ∙ other))

equal_of : (o : Ordering) → is_eq o ≡ true → o ≡ Equal
equal_of Less e = absurd (false≢true e)
equal_of Equal e = refl
equal_of Greater e = absurd (false≢true e)

-- no null comes after itself
not_after_itself : (n : Null) → null_order n n ≡ Greater → {X : Type 0} → X
not_after_itself n e = absurd (false≢true (ap is_lt (sym e ∙ null_turned n n ∙ ap ordering_reverse e)))

-- the null is that of the last pair
pub put_again : (v : World) (n : Null) (x : Value) → are_up_to v n ≡ true → ends_with v n ≡ true → v ≡ put v n x
put_again [] n x up ends = absurd (false≢true ends)
put_again (p ∷ []) n x up ends = by (null_order n p.0) refl where
  by : (o : Ordering) → null_order n p.0 ≡ o → p ∷ [] ≡ by_order o ((n, x) ∷ p ∷ []) (p ∷ []) (p ∷ put [] n x)
  by Less e = neither (null_order n p.0) (and_parts (not (null_before n p.0)) true up).0 e
  by Equal e = refl
  by Greater e = not_after_itself n (ap (null_order n) (sym (exact_null p.0 n (equal_of (null_order p.0 n) ends))) ∙ e)
put_again (p ∷ q ∷ v) n x up ends =
    let parts = and_parts (not (null_before n p.0)) (are_up_to (q ∷ v) n) up in
    by (null_order n p.0) refl parts.0 (put_again (q ∷ v) n x parts.1 ends) where
      by : (o : Ordering) → null_order n p.0 ≡ o → not (null_before n p.0) ≡ true → q ∷ v ≡ put (q ∷ v) n x → p ∷ q ∷ v ≡ by_order o ((n, x) ∷ p ∷ q ∷ v) (p ∷ q ∷ v) (p ∷ put (q ∷ v) n x)
      by Less e first later = neither (null_order n p.0) first e
      by Equal e first later = refl
      by Greater e first later = ap (λ l. p ∷ l) later

-- the null comes after all others
pub put_last : (v : World) (n : Null) (x : Value) → are_ascending v ≡ true → are_up_to v n ≡ true → ends_with v n ≡ false → v ++ (n, x) ∷ [] ≡ put v n x
put_last [] n x rising up other = refl
put_last (p ∷ []) n x rising up other = by (null_order n p.0) refl where
  by : (o : Ordering) → null_order n p.0 ≡ o → p ∷ (n, x) ∷ [] ≡ by_order o ((n, x) ∷ p ∷ []) (p ∷ []) (p ∷ put [] n x)
  by Less e = neither (null_order n p.0) (and_parts (not (null_before n p.0)) true up).0 e
  by Equal e = absurd (false≢true (sym other ∙ ap is_eq (null_turned p.0 n ∙ ap ordering_reverse e)))
  by Greater e = refl
put_last (p ∷ q ∷ v) n x rising up other =
    let parts = and_parts (not (null_before n p.0)) (are_up_to (q ∷ v) n) up in
    let before = and_parts (list_all (λ r. null_before p.0 r.0) (q ∷ v)) (are_ascending (q ∷ v)) rising in
    by (null_order n p.0) refl parts.0 (and_parts (null_before p.0 q.0) (list_all (λ r. null_before p.0 r.0) v) before.0).0 (and_parts (not (null_before n q.0)) (are_up_to v n) parts.1).0
    (put_last (q ∷ v) n x before.1 parts.1 other) where
      by : (o : Ordering) → null_order n p.0 ≡ o → not (null_before n p.0) ≡ true → null_before p.0 q.0 ≡ true → not (null_before n q.0) ≡ true → q ∷ (v ++ (n, x) ∷ []) ≡ put (q ∷ v) n x
          → p ∷ q ∷ (v ++ (n, x) ∷ []) ≡ by_order o ((n, x) ∷ p ∷ q ∷ v) (p ∷ q ∷ v) (p ∷ put (q ∷ v) n x)
      by Less e first less not_less later = neither (null_order n p.0) first e
      by Equal e first less not_less later = absurd (false≢true (sym (ap not (ap (λ m. null_before m q.0) (exact_null n p.0 e) ∙ less)) ∙ not_less))
      by Greater e first less not_less later = ap (λ l. p ∷ l) later

-- whether the last pair has a null, read at its place
pub ends_at : (v : World) (n : Null) (p : Null × Value) (k : ℕ) → k + 1 ≡ length v → p ≡ get_or v k p → is_eq (null_order p.0 n) ≡ ends_with v n
ends_at [] n p k count e = absurd (omega (arith, count))
ends_at (q ∷ []) n p zero count e = ap (λ r. is_eq (null_order r.0 n)) e
ends_at (q ∷ []) n p (suc k) count e = absurd (omega (arith, count))
ends_at (q ∷ r ∷ v) n p zero count e = absurd (omega (arith, count))
ends_at (q ∷ r ∷ v) n p (suc k) count e = ends_at (r ∷ v) n p k (omega (arith, count)) e

-- nulls up to this one, with their values
up_more : (world out : World) (m n : Null) → not (null_before m n) ≡ true → are_up_to out m ≡ true → are_up_to (with_null world out n) m ≡ true
up_more world out m n first up = by (same_value (value_of_null world n) other_zero) where
  by : (b : Bool) → are_up_to (if b then out else put out n (value_of_null world n)) m ≡ true
  by true = up
  by false = put_all (λ p. not (null_before m p.0)) out n (value_of_null world n) first up

with_up : (world : World) (m : Null) (ns : List Null) (out : World) → list_all (λ n. not (null_before m n)) ns ≡ true → are_up_to out m ≡ true → are_up_to (with_nulls world out ns) m ≡ true
with_up world m [] out all up = up
with_up world m (n ∷ ns) out all up =
    let parts = and_parts (not (null_before m n)) (list_all (λ n. not (null_before m n)) ns) all in
    with_up world m ns (with_null world out n) parts.1 (up_more world out m n parts.0 up)

front_up : (ns : List Null) (i : ℕ) (m : Null) → ((k : ℕ) → k < i → k < length ns → null_before m (get_or ns k m) ≡ false) → list_all (λ n. not (null_before m n)) (take i ns) ≡ true
front_up [] zero m h = refl
front_up [] (suc i) m h = refl
front_up (n ∷ ns) zero m h = refl
front_up (n ∷ ns) (suc i) m h =
    and_from (not (null_before m n)) (list_all (λ n. not (null_before m n)) (take i ns)) (ap not (h 0 (omega arith) (omega arith))) (front_up ns i m (λ k a b. h (suc k) (omega (arith, a)) (omega (arith, b))))

-- the first nulls of a list in order are up to the next one
pub next_up : (world : World) (ns : List Null) (i : ℕ) (n : Null) → IsSortedBy null_before ns → i < length ns → n ≡ get_or ns i n → are_up_to (with_nulls world [] (take i ns)) n ≡ true
next_up world ns i n ordered lt e =
    with_up world n (take i ns) [] (front_up ns i n (λ k a b. ap (λ m. null_before m (get_or ns k n)) e ∙ sorted_far null_before null_ranks ns ordered k i n (omega (arith, a)) lt)) refl

-- a null is before the first one of these, if there is one
abbrev IsBefore : Null → World → Type 0
IsBefore n [] = Unit {0}
IsBefore n (q ∷ v) = null_order n q.0 ≡ Less

-- one more pair in front
tidy_cons : (p : Null × Value) (v : World) → same_value p.1 other_zero ≡ false → IsBefore p.0 v → IsTidy v → IsTidy (p ∷ v)
tidy_cons p [] nonzero before tidy = ap (λ b. not b && true) nonzero
tidy_cons p (q ∷ v) nonzero before tidy =
    let parts = and_parts (are_ascending (q ∷ v)) (has_no_zero (q ∷ v)) tidy in
    let first = and_parts (list_all (λ r. null_before q.0 r.0) v) (are_ascending v) parts.0 in
    and_from (are_ascending (p ∷ q ∷ v)) (has_no_zero (p ∷ q ∷ v))
    (and_from (list_all (λ r. null_before p.0 r.0) (q ∷ v)) (are_ascending (q ∷ v))
    (and_from (null_before p.0 q.0) (list_all (λ r. null_before p.0 r.0) v) (ap is_lt before) (before_more p.0 q.0 v before first.0)) parts.0)
    (and_from (not (same_value p.1 other_zero)) (has_no_zero (q ∷ v)) (ap not nonzero) parts.1)

-- a pair further to the front, behind which is none
pub tidy_last : (v : World) (k : ℕ) (p : Null × Value) → k < length v → p ≡ get_or v k p → length v ≤ suc k → same_value p.1 other_zero ≡ false → IsTidy (drop k v)
tidy_last v k p lt is end nonzero =
    subst IsTidy (sym (drop-cons v k p lt ∙ ap (λ x. x ∷ drop (suc k) v) (sym is) ∙ ap (λ l. p ∷ l) (drop_all (suc k) v end))) (tidy_cons p [] nonzero tt refl)

-- and one with another behind it
pub tidy_before : (v : World) (k j : ℕ) (p q : Null × Value) → k < length v → p ≡ get_or v k p → j ≡ suc k → j < length v → q ≡ get_or v j q → same_value p.1 other_zero ≡ false → null_before p.0 q.0 ≡ true
    → IsTidy (drop (suc k) v) → IsTidy (drop k v)
tidy_before v k j p q lt is one short next nonzero before tidy =
    let rest : drop (suc k) v ≡ q ∷ drop (suc j) v = ap (λ n. drop n v) (sym one) ∙ drop-cons v j q short ∙ ap (λ x. x ∷ drop (suc j) v) (sym next) in
    subst IsTidy (sym (drop-cons v k p lt ∙ ap (λ x. x ∷ drop (suc k) v) (sym is) ∙ ap (λ l. p ∷ l) rest))
    (tidy_cons p (q ∷ drop (suc j) v) nonzero (less_of (null_order p.0 q.0) before) (subst IsTidy rest tidy))
