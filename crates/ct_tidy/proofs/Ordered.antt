-- A world put into order is tidy, and gives each null the value that it had.
use Rattle.std.proofs.Common.{◌≡◌, ◌<◌, ◌+◌, ◌++◌, take, ℕ, zero, suc, Bool, true, false, not, ◌&&◌, List, [], ◌∷◌, length, map, get_or, arith}
use Rattle.std.proofs.Common.{refl, ap, sym, ◌∙◌, inl, inr, if◌then◌else◌}
use Rattle.std.{specs.Prelude.{Contains, IsPermutation}, specs.Cmp.{IsStrictWeakOrder, IsTotalOrder}, specs.List.list_all}
use Rattle.std.{proofs.lemmas.List.Sorted.{Contains-permutation, ranks_by}, specs.declared.cmp.Ordering.Ordering, proofs.lemmas.List.take_more}
use Rattle.std.{specs.declared.cmp.Ordering.TheVariants.{Less, Equal, Greater}, proofs.lemmas.Bool.{and_parts, and_from, cases_Bool, false≢true}}
use Rattle.std.{specs.Ordering.{nat_cmp, on, ordering_reverse, then_cmp, is_lt}, proofs.lemmas.Cmp.{nat_cmp_total, nat_list_cmp_total, on_total, then_total}}
use Rattle.ct_word.{specs.declared.values.Value.Value, specs.declared.values.Null.Null, specs.Value.{World, same_null, same_value, other_zero, value_of_null}}
use Rattle.ct_word.proofs.{Alike.{null_decides, value_decides}, Items.{item_cases, no_item}}
use Rattle.ct_rewrite.{specs.Order.null_order, specs.Tidy.{IsTidy, null_before, are_ascending, has_no_zero}, proofs.Sides.{null_turned, exact_null}}
use Rattle.ct_tidy.specs.Order.{by_order, put, with_null, with_nulls}
use Rattle.ct_word.specs.declared.values.Null.TheVariants as null

-- the order of pairs of numbers
pairs_through : (a b c : ℕ × ℕ) → then_cmp (on (λ p. p.0) nat_cmp) (on (λ p. p.1) nat_cmp) a b ≡ Less → then_cmp (on (λ p. p.0) nat_cmp) (on (λ p. p.1) nat_cmp) b c ≡ Less
    → then_cmp (on (λ p. p.0) nat_cmp) (on (λ p. p.1) nat_cmp) a c ≡ Less
pairs_through = (then_total (on_total (λ (p : ℕ × ℕ). p.0) nat_cmp_total) (on_total (λ (p : ℕ × ℕ). p.1) nat_cmp_total)).trans

null_through : (l m n : Null) → null_order l m ≡ Less → null_order m n ≡ Less → null_order l n ≡ Less
null_through (null.Named a) (null.Named b) (null.Named c) p q = nat_list_cmp_total.trans a b c p q
null_through (null.Named a) m (null.Fresh u k) p q = refl
null_through (null.Named a) (null.Fresh t j) (null.Named c) p q = absurd (false≢true (ap is_lt q))
null_through (null.Fresh s i) (null.Named b) n p q = absurd (false≢true (ap is_lt p))
null_through (null.Fresh s i) (null.Fresh t j) (null.Named c) p q = absurd (false≢true (ap is_lt q))
null_through (null.Fresh s i) (null.Fresh t j) (null.Fresh u k) p q = pairs_through (s, i) (t, j) (u, k) p q

null_total : IsTotalOrder null_order
null_total = record { antisymm = null_turned; trans = null_through; congr = λ l m n e. ap (λ o. null_order o n) (exact_null l m e) }

pub null_ranks : IsStrictWeakOrder null_before
null_ranks = ranks_by null_total (λ n. n)

pub pair_ranks : IsStrictWeakOrder (λ (p q : Null × Value). null_before p.0 q.0)
pair_ranks = ranks_by null_total (λ (p : Null × Value). p.0)

pub less_of : (o : Ordering) → is_lt o ≡ true → o ≡ Less
less_of Less e = refl
less_of Equal e = absurd (false≢true e)
less_of Greater e = absurd (false≢true e)

-- a null before another is before all that the other is before
pub before_more : (m n : Null) (v : World) → null_order m n ≡ Less → list_all (λ r. null_before n r.0) v ≡ true → list_all (λ r. null_before m r.0) v ≡ true
before_more m n [] e all = refl
before_more m n (r ∷ v) e all =
    let parts = and_parts (null_before n r.0) (list_all (λ r. null_before n r.0) v) all in
    and_from (null_before m r.0) (list_all (λ r. null_before m r.0) v) (ap is_lt (null_through m n r.0 e (less_of _ parts.0))) (before_more m n v e parts.1)

-- what all pairs are, those of the world with one more are
pub put_all : (test : Null × Value → Bool) (v : World) (n : Null) (x : Value) → test (n, x) ≡ true → list_all test v ≡ true → list_all test (put v n x) ≡ true
put_all test [] n x e all = and_from (test (n, x)) true e refl
put_all test (p ∷ v) n x e all = by (null_order n p.0) (let parts = and_parts (test p) (list_all test v) all in and_from (test p) (list_all test (put v n x)) parts.0 (put_all test v n x e parts.1)) where
  by : (o : Ordering) → list_all test (p ∷ put v n x) ≡ true → list_all test (by_order o ((n, x) ∷ p ∷ v) (p ∷ v) (p ∷ put v n x)) ≡ true
  by Less later = and_from (test (n, x)) (list_all test (p ∷ v)) e all
  by Equal later = all
  by Greater later = later

put_ascending : (v : World) (n : Null) (x : Value) → are_ascending v ≡ true → are_ascending (put v n x) ≡ true
put_ascending [] n x e = refl
put_ascending (p ∷ v) n x e = by (null_order n p.0) refl (put_ascending v n x (and_parts (list_all (λ r. null_before p.0 r.0) v) (are_ascending v) e).1) where
  by : (o : Ordering) → null_order n p.0 ≡ o → are_ascending (put v n x) ≡ true → are_ascending (by_order o ((n, x) ∷ p ∷ v) (p ∷ v) (p ∷ put v n x)) ≡ true
  by Less is later =
      let parts = and_parts (list_all (λ r. null_before p.0 r.0) v) (are_ascending v) e in
      and_from (null_before n p.0 && list_all (λ r. null_before n r.0) v) (are_ascending (p ∷ v))
      (and_from (null_before n p.0) (list_all (λ r. null_before n r.0) v) (ap is_lt is) (before_more n p.0 v is parts.0)) e
  by Equal is later = e
  by Greater is later =
      let parts = and_parts (list_all (λ r. null_before p.0 r.0) v) (are_ascending v) e in
      let turned : null_order p.0 n ≡ Less = null_turned p.0 n ∙ ap ordering_reverse is in
      and_from (list_all (λ r. null_before p.0 r.0) (put v n x)) (are_ascending (put v n x))
      (put_all (λ r. null_before p.0 r.0) v n x (ap is_lt turned) parts.0) later

same_self : (x : Value) → same_value x x ≡ true
same_self x = (value_decides x x).1 refl

-- a world is in order, without @0, and gives its nulls the values that another gives them
pub record IsPartOf (world out : World) : Type 0 where
  pub ascending : are_ascending out ≡ true
  pub no_zero : has_no_zero out ≡ true
  pub agrees : list_all (λ p. same_value p.1 (value_of_null world p.0)) out ≡ true

-- the value of a null by the first pair, or by the others
first_or_not : (q : Null × Value) (v : World) (m : Null) (y : Value) → (same_null q.0 m ≡ true → q.1 ≡ y) → (same_null q.0 m ≡ false → value_of_null v m ≡ y) → value_of_null (q ∷ v) m ≡ y
first_or_not q v m y first rest = elim (cases_Bool (same_null q.0 m)) [
  | inl t ↦ ap (λ b. if b then q.1 else value_of_null v m) t ∙ first t
  | inr f ↦ ap (λ b. if b then q.1 else value_of_null v m) f ∙ rest f
]

module _ (world : World) where
  abbrev value : Null → Value
  value n = value_of_null world n

  abbrev agrees : Null × Value → Bool
  agrees p = same_value p.1 (value_of_null world p.0)

  abbrev Gives : World → Null → Type 0
  Gives out m = value_of_null out m ≡ value_of_null world m

  same_is : (m n : Null) → same_null m n ≡ true → value m ≡ value n
  same_is m n t = ap value ((null_decides m n).0 t)

  put_gives : (v : World) (n m : Null) → Gives v m → Gives (put v n (value n)) m
  put_gives [] n m g = first_or_not (n, value n) [] m (value m) (λ t. same_is n m t) (λ f. g)
  put_gives (p ∷ v) n m g = by (null_order n p.0) (put_gives v n m) where
    by : (o : Ordering) → (Gives v m → Gives (put v n (value n)) m) → Gives (by_order o ((n, value n) ∷ p ∷ v) (p ∷ v) (p ∷ put v n (value n))) m
    by Less later = first_or_not (n, value n) (p ∷ v) m (value m) (λ t. same_is n m t) (λ f. g)
    by Equal later = g
    by Greater later = first_or_not p (put v n (value n)) m (value m)
        (λ t. sym (ap (λ b. if b then p.1 else value_of_null v m) t) ∙ g)
        (λ f. later (sym (ap (λ b. if b then p.1 else value_of_null v m) f) ∙ g))

  put_sets : (v : World) (n : Null) → list_all agrees v ≡ true → Gives (put v n (value n)) n
  put_sets [] n all = first_or_not (n, value n) [] n (value n) (λ t. refl) (λ f. absurd (false≢true (sym f ∙ (null_decides n n).1 refl)))
  put_sets (p ∷ v) n all =
      let parts = and_parts (agrees p) (list_all agrees v) all in
      by (null_order n p.0) refl ((value_decides p.1 (value p.0)).0 parts.0) (put_sets v n parts.1) where
        by : (o : Ordering) → null_order n p.0 ≡ o → p.1 ≡ value p.0 → Gives (put v n (value n)) n → Gives (by_order o ((n, value n) ∷ p ∷ v) (p ∷ v) (p ∷ put v n (value n))) n
        by Less is its_own later = first_or_not (n, value n) (p ∷ v) n (value n) (λ t. refl) (λ f. absurd (false≢true (sym f ∙ (null_decides n n).1 refl)))
        by Equal is its_own later =
            let same : p.0 ≡ n = sym (exact_null n p.0 is) in
            first_or_not p v n (value n) (λ t. its_own ∙ ap value same) (λ f. absurd (false≢true (sym f ∙ (null_decides p.0 n).1 same)))
        by Greater is its_own later = first_or_not p (put v n (value n)) n (value n) (λ t. its_own ∙ same_is p.0 n t) (λ f. later)

  part_more : (out : World) (n : Null) → IsPartOf world out → IsPartOf world (with_null world out n)
  part_more out n is = by (same_value (value n) other_zero) refl where
    by : (b : Bool) → same_value (value n) other_zero ≡ b → IsPartOf world (if b then out else put out n (value n))
    by true e = is
    by false e = record {
      ascending = put_ascending out n (value n) is.ascending;
      no_zero = put_all (λ p. not (same_value p.1 other_zero)) out n (value n) (ap not e) is.no_zero;
      agrees = put_all agrees out n (value n) (same_self (value n)) is.agrees;
    }

  with_gives : (out : World) (n m : Null) → Gives out m → Gives (with_null world out n) m
  with_gives out n m g = by (same_value (value n) other_zero) where
    by : (b : Bool) → Gives (if b then out else put out n (value n)) m
    by true = g
    by false = put_gives out n m g

  with_sets : (out : World) (n : Null) → IsPartOf world out → same_value (value n) other_zero ≡ false → Gives (with_null world out n) n
  with_sets out n is e = ap (λ b. value_of_null (if b then out else put out n (value n)) n) e ∙ put_sets out n is.agrees

  pub part_all : (ns : List Null) (out : World) → IsPartOf world out → IsPartOf world (with_nulls world out ns)
  part_all [] out is = is
  part_all (n ∷ ns) out is = part_all ns (with_null world out n) (part_more out n is)

  all_give : (ns : List Null) (out : World) (m : Null) → Gives out m → Gives (with_nulls world out ns) m
  all_give [] out m g = g
  all_give (n ∷ ns) out m g = all_give ns (with_null world out n) m (with_gives out n m g)

  set_at : (m : Null) → same_value (value m) other_zero ≡ false → (ns : List Null) (out : World) → IsPartOf world out → (k : ℕ) → k < length ns → get_or ns k m ≡ m → Gives (with_nulls world out ns) m
  set_at m e [] out is k lt same = absurd (omega (arith, lt))
  set_at m e (n ∷ ns) out is zero lt same =
      all_give ns (with_null world out n) m (ap (λ q. value_of_null (with_null world out n) q) (sym same) ∙ with_sets out n is (ap (λ q. same_value (value q) other_zero) same ∙ e) ∙ ap value same)
  set_at m e (n ∷ ns) out is (suc k) lt same = set_at m e ns (with_null world out n) (part_more out n is) k (omega (arith, lt)) same

  all_set : (ns : List Null) (out : World) (m : Null) → IsPartOf world out → same_value (value m) other_zero ≡ false → Contains ns m → Gives (with_nulls world out ns) m
  all_set ns out m is e h = set_at m e ns out is h.0 h.1 h.2

  pub empty_part : IsPartOf world []
  empty_part = record { ascending = refl; no_zero = refl; agrees = refl }

  -- some nulls of a world, in order
  pub some_tidy : (ns : List Null) → IsTidy (with_nulls world [] ns)
  some_tidy ns = let is = part_all ns [] empty_part in and_from (are_ascending (with_nulls world [] ns)) (has_no_zero (with_nulls world [] ns)) is.ascending is.no_zero

  -- they have the values that they had
  pub some_give : (ns : List Null) (m : Null) → Contains ns m → Gives (with_nulls world [] ns) m
  some_give ns m h = elim (cases_Bool (same_value (value m) other_zero)) [
    | inl t ↦ all_give ns [] m (sym ((value_decides (value m) other_zero).0 t))
    | inr f ↦ all_set ns [] m empty_part f h
  ]

-- a null that has another value than @0 is listed
listed : (v : World) (m : Null) → same_value (value_of_null v m) other_zero ≡ false → Contains (map (λ p. p.0) v) m
listed [] m e = absurd (false≢true (sym e))
listed (p ∷ v) m e = elim (cases_Bool (same_null p.0 m)) [
  | inl t ↦ (zero, omega arith, (null_decides p.0 m).0 t)
  | inr f ↦
      let r = listed v m (ap (λ b. same_value (if b then p.1 else value_of_null v m) other_zero) (sym f) ∙ e) in
      (suc r.0, omega (arith, r.1), r.2)
]

other_than : (b : Bool) → not b ≡ true → b ≡ false
other_than true e = sym e
other_than false e = refl

-- the nulls of a tidy world have other values
not_zero : (w : World) → IsTidy w → (n : Null) → Contains (map (λ p. p.0) w) n → same_value (value_of_null w n) other_zero ≡ false
not_zero [] tidy n h = absurd (no_item n h)
not_zero (p ∷ w) tidy n h =
    let parts = and_parts (are_ascending (p ∷ w)) (has_no_zero (p ∷ w)) tidy in
    let rising = and_parts (list_all (λ r. null_before p.0 r.0) w) (are_ascending w) parts.0 in
    let values = and_parts (not (same_value p.1 other_zero)) (has_no_zero w) parts.1 in
    elim (cases_Bool (same_null p.0 n)) [
      | inl t ↦ ap (λ b. same_value (if b then p.1 else value_of_null w n) other_zero) t ∙ other_than (same_value p.1 other_zero) values.0
      | inr f ↦
          let later : Contains (map (λ q. q.0) w) n = elim (item_cases (map (λ q. q.0) w) p.0 n h) [
            | inl e ↦ absurd (false≢true (sym f ∙ (null_decides p.0 n).1 e))
            | inr i ↦ i
          ] in
          ap (λ b. same_value (if b then p.1 else value_of_null w n) other_zero) f ∙ not_zero w (and_from (are_ascending w) (has_no_zero w) rising.1 values.1) n later
    ]

-- so they are listed in each world that gives them these values
pub listed_by : (v w : World) → IsTidy w → ((n : Null) → value_of_null w n ≡ value_of_null v n) → (n : Null) → Contains (map (λ p. p.0) w) n → Contains (map (λ p. p.0) v) n
listed_by v w tidy same n h = listed v n (ap (λ x. same_value x other_zero) (sym (same n)) ∙ not_zero w tidy n h)

-- all nulls of a world, in some order, have the values that they had
pub all_as_they_were : (v : World) (ns : List Null) → IsPermutation (map (λ p. p.0) v) ns → (m : Null) → value_of_null (with_nulls v [] ns) m ≡ value_of_null v m
all_as_they_were v ns all m = elim (cases_Bool (same_value (value_of_null v m) other_zero)) [
  | inl t ↦ all_give v ns [] m (sym ((value_decides (value_of_null v m) other_zero).0 t))
  | inr f ↦ some_give v ns m (Contains-permutation (map (λ p. p.0) v) ns m all (listed v m f))
]

-- one more null of a world
nulls_snoc : (world out : World) (ns : List Null) (n : Null) → with_null world (with_nulls world out ns) n ≡ with_nulls world out (ns ++ n ∷ [])
nulls_snoc world out [] n = refl
nulls_snoc world out (m ∷ ns) n = nulls_snoc world (with_null world out m) ns n

pub nulls_more : (world : World) (ns : List Null) (i : ℕ) (n : Null) (out : World) → i < length ns → n ≡ get_or ns i n → out ≡ with_nulls world [] (take i ns)
    → with_null world out n ≡ with_nulls world [] (take (i + 1) ns)
nulls_more world ns i n out lt e so_far =
    let done : take i ns ++ n ∷ [] ≡ take (i + 1) ns = ap (λ x. take i ns ++ x ∷ []) e ∙ sym (take_more ns i n lt) in
    ap (λ o. with_null world o n) so_far ∙ nulls_snoc world [] (take i ns) n ∙ ap (λ l. with_nulls world [] l) done
