-- Giving numbers to classes.
use Rattle.std.proofs.Common.{◌≡◌, ◌≢◌, ◌||◌, ◌<◌, ◌≤◌, ◌^◌, ◌+◌, ℕ, zero, suc, Bool, true, false, List, [], ◌∷◌, ◌++◌, length, map, get_or, Option, Some, None, nat_eq, ap, sym, ◌∙◌, inl, inr, ◌⊎◌, arith}
use Rattle.std.{specs.List.range_with_len, proofs.lemmas.List.FromFn.length-range_with_len, specs.Cmp.nat_eq_equiv, proofs.lemmas.List.length-map}
use Rattle.std.{proofs.lemmas.Bool.{false≢true, cases_eq, cases_lt, cases_Bool, both_ways, ne_eqb, false_from_ne_true}, proofs.lemmas.Bool.Decides.nat_tests, proofs.lemmas.Map.Made.length-le_from_is_member}
use Rattle.ct_derivation.specs.Path.{is_constant}
use Rattle.ct_equality.{specs.declared.classes.Member.Member, specs.Terms.{AreAscending, is_among}, specs.Valued.{AreNumbered, AreNumberedTo}, specs.Indexed.IsTable}
use Rattle.ct_equality.{specs.Members.{is_listed, class_of, number_of, is_taken, with_number, numbered}, proofs.Listed.ascends_distinct}
use Rattle.ct_equality.{proofs.Members.{listed_numbered, class_numbered, number_numbered, number_new, taken_numbered, taken_by}, proofs.Trees.among_append}

module _ (words : List ℕ) (first ms : List Member) (done : List ℕ) (are : AreNumbered words first ms done) (p : ℕ) where
  among_more : (q : ℕ) → is_among (done ++ p ∷ []) q ≡ (is_among done q || nat_eq q p)
  among_more q = grind (arith, among_append done (p ∷ []) q)

  module _ (k : ℕ) (free : is_taken ms k ≡ false) (short : k < 2 ^ 28) (there : is_listed ms p ≡ true) (no_constant : is_constant words p ≡ false)
      (own : class_of ms p ≡ p) (above : (q : ℕ) → is_among done q ≡ true → q < p) (taken : (j : ℕ) → j < k → is_taken ms j ≡ true) where
    abbrev new : List Member
    new = numbered p k ms

    number_cases : (q : ℕ) → ((q ≡ p) × (number_of new q ≡ Some k)) ⊎ ((q ≢ p) × (number_of new q ≡ number_of ms q))
    number_cases q = elim (cases_eq q p) [
      | inl s ↦ inl (s, ap (number_of new) s ∙ number_new p k ms there)
      | inr f ↦ inr (f, number_numbered p k ms q (ne_eqb q p f))
    ]

    once_more : (q r j : ℕ) → number_of new q ≡ Some j → number_of new r ≡ Some j → q ≡ r
    once_more q r j e f = grind (arith, number_cases q, number_cases r, are.once q r j, taken_by ms q k, taken_by ms r k)

    -- this term had no number
    kept_number : (q j : ℕ) → number_of ms q ≡ Some j → number_of new q ≡ Some j
    kept_number q j e = elim (number_cases q) [
      | inl a ↦ let s = a.0 in let lt = above p (are.given p j (ap (number_of ms) (sym s) ∙ e) no_constant).0 in absurd (omega (arith, lt))
      | inr a ↦ a.1 ∙ e
    ]

    given_more : (q j : ℕ) → number_of new q ≡ Some j → is_constant words q ≡ false → (is_among (done ++ p ∷ []) q ≡ true) × (class_of new q ≡ q)
    given_more q j e n = grind (arith, nat_tests, number_cases q, among_more q, class_numbered p k ms q, are.given q j)

    found_more : (j : ℕ) → is_taken new j ≡ true → (q : ℕ) × (number_of new q ≡ Some j)
    found_more j e = elim (taken_numbered p k ms j e) [
      | inl s ↦ (p, number_new p k ms there ∙ ap Some (sym s))
      | inr t ↦ let f = are.found j t in (f.0, kept_number f.0 j f.1)
    ]

    least_more : (q i j : ℕ) → number_of new q ≡ Some i → is_constant words q ≡ false → j < i → (r : ℕ) × (number_of new r ≡ Some j) × (is_constant words r ≡ false → r < q)
    least_more q i j e n lt = elim (number_cases q) [
      | inl a ↦
          let same : k ≡ i = cc in
          let at = a.0 in
          let f = are.found j (taken j (omega (arith, same, lt))) in
          (f.0, kept_number f.0 j f.1, λ c. let l = above f.0 (are.given f.0 j f.1 c).0 in omega (arith, l, at))
      | inr a ↦ let f = are.least q i j (sym a.1 ∙ e) n lt in (f.0, kept_number f.0 j f.1, f.2)
    ]

    pub numbered_more : AreNumbered words first new (done ++ p ∷ [])
    numbered_more = record {
      count = length-map ms (with_number p k) ∙ are.count;
      listed = λ q. listed_numbered p k ms q ∙ are.listed q;
      classes = λ q. class_numbered p k ms q ∙ are.classes q;
      once = once_more;
      short = λ q j e. grind (arith, number_cases q, are.short q j);
      constants = λ q e l. grind (arith, number_cases q, are.constants q, listed_numbered p k ms q);
      given = given_more;
      found = found_more;
      least = least_more;
      chiefs = λ q e c n none. grind (arith, nat_tests, number_cases q, among_more q, are.chiefs q, class_numbered p k ms q);
    }

    -- it is taken now, and each below it still is
    taken_more : (j : ℕ) → j < k + 1 → is_taken new j ≡ true
    taken_more j lt = elim (cases_eq j k) [
      | inl same ↦ taken_by new p j (number_new p k ms there ∙ ap Some (sym same))
      | inr other ↦ let f = are.found j (taken j (omega (arith, lt, other))) in taken_by new f.0 j (kept_number f.0 j f.1)
    ]

    -- no number above it is taken or free that was not
    taken_above : (j : ℕ) → k < j → is_taken new j ≡ is_taken ms j
    taken_above j lt = elim (cases_Bool (is_taken ms j)) [
      | inl t ↦ (let f = are.found j t in taken_by new f.0 j (kept_number f.0 j f.1)) ∙ sym t
      | inr f ↦ false_from_ne_true (is_taken new j) (λ e. elim (taken_numbered p k ms j e) [
        | inl s ↦ omega (arith, lt, s)
        | inr t ↦ both_ways _ f t
      ]) ∙ sym f
    ]

    pub table_numbered : (from : ℕ) (table : List Bool) → from ≤ k → IsTable ms from table → IsTable new (k + 1) table
    table_numbered from table le is = record {
      count = is.count ∙ ap (λ n. n + 1) (sym (length-map ms (with_number p k)));
      taken = λ j above within. is.taken j (omega (arith, le, above)) within ∙ sym (taken_above j (omega (arith, above)));
    }

    pub numbered_to : AreNumberedTo words first new (done ++ p ∷ []) (k + 1)
    numbered_to = record { numbers = numbered_more; below = taken_more }

-- ascending numbers
range_within : (a n q : ℕ) → is_among (range_with_len a n) q ≡ true → (a ≤ q) × (q < a + n)
range_within a zero q e = absurd (false≢true e)
range_within a (suc n) q e = grind (arith, nat_tests, range_within (a + 1) n q)

range_ascends : (a n : ℕ) → AreAscending (range_with_len a n)
range_ascends a zero = tt
range_ascends a (suc n) = (λ p e. let l = (range_within (a + 1) n p e).0 in omega (arith, l), range_ascends (a + 1) n)

-- the number of a member, 0 where it has none
abbrev number_or_zero : Option ℕ → ℕ
number_or_zero None = 0
number_or_zero (Some k) = k

taken_among : (ms : List Member) (k : ℕ) → is_taken ms k ≡ true → is_among (map (λ m. number_or_zero m.number) ms) k ≡ true
taken_among [] k e = absurd (false≢true e)
taken_among (m ∷ ms) k e = grind (arith, nat_tests, taken_among ms k)

-- as many numbers as are all taken, members there are
pub taken_few : (ms : List Member) (n : ℕ) → ((k : ℕ) → k < n → is_taken ms k ≡ true) → n ≤ length ms
taken_few ms n all =
    let le = length-le_from_is_member nat_eq_equiv (range_with_len 0 n) (map (λ m. number_or_zero m.number) ms) (ascends_distinct (range_with_len 0 n) (range_ascends 0 n))
    (λ q e. taken_among ms q (all q (let l = (range_within 0 n q e).1 in omega (arith, l)))) in
    let e = length-range_with_len 0 n in
    let f = length-map ms (λ m. number_or_zero m.number) in
    omega (arith, le, e, f)

-- where the numbers before the next one are taken
module _ (ms : List Member) (next : ℕ) (table : List Bool) (is : IsTable ms next table) (below : (k : ℕ) → k < next → is_taken ms k ≡ true) where
  pub all_taken : (n : ℕ) → n ≤ length table → ((k : ℕ) → next ≤ k → k < n → get_or table k false ≡ true) → (k : ℕ) → k < n → is_taken ms k ≡ true
  all_taken n le h k lt = elim (cases_lt k next) [
    | inl a ↦ below k a
    | inr b ↦ sym (is.taken k b (omega (arith, le, lt))) ∙ h k b lt
  ]

  -- not all are taken
  pub table_ends : (n : ℕ) → ((k : ℕ) → next ≤ k → k < n → get_or table k false ≡ true) → n < length table
  table_ends n h = elim (cases_lt n (length table)) [
    | inl a ↦ a
    | inr b ↦
        let few = taken_few ms (length table) (all_taken (length table) (omega arith) (λ k le lt. h k le (omega (arith, lt, b)))) in
        let c = is.count in
        absurd (omega (arith, few, c))
  ]
