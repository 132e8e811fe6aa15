-- A look at a clause, literal by literal.
use Rattle.std.{proofs.Common.{◌≡◌, ◌⊎◌, ℕ, ◌<◌, Bool, true, false, ◌||◌, ◌&&◌, List, [], ◌∷◌, ◌++◌, length, get_or, refl, ap, sym, subst, ◌∙◌, ℤ, inl, inr}, specs.Ordering.int_eq}
use Rattle.std.proofs.lemmas.List.Folds.{list_any-append, list_all-append, list_any_at}
use Rattle.std.proofs.lemmas.Bool.{and_parts, and_from, cases_Bool, false≢true, or_cases, or_left, or_right, cond_both}
use Rattle.ct_trail.specs.{declared.assignment.Truth.Truth, declared.look.Look.Look, Literal.{Clause, has, is_positive}}
use Rattle.ct_trail.specs.{Assignment.{truth_of, is_true, is_false, satisfied, falsified, falsified_but, IsOpen}, Look.{IsUndecided, LookOf, opened, preferred}}
use Rattle.ct_trail.proofs.Literals.{same_is, same_refl, same_sym, has_more}
use Rattle.ct_trail.specs.declared.assignment.Truth.TheVariants as truth
use Rattle.ct_trail.specs.declared.look.Look.TheVariants as look

none_after : (b : Bool) → (b && false) ≡ false
none_after true = refl
none_after false = refl

false_untrue : (t : Truth) → is_false t ≡ true → is_true t ≡ false
false_untrue truth.False e = refl
false_untrue truth.Open e = refl
false_untrue truth.True e = absurd (false≢true e)

other_way : (l m : ℤ) → int_eq l m ≡ false → int_eq m l ≡ false
other_way l m e = elim (cases_Bool (int_eq m l)) [ inl s ↦ absurd (false≢true (sym e ∙ same_sym m l s)) | inr n ↦ n ]

module _ (ts : List Truth) where
  -- no literal is true, and some other one than m is not false
  untrue_more : (c : Clause) (l : ℤ) → satisfied ts c ≡ false → is_true (truth_of ts l) ≡ false → satisfied ts (c ++ l ∷ []) ≡ false
  unfolding satisfied
  untrue_more c l e f = list_any-append (λ m. is_true (truth_of ts m)) c (l ∷ []) ∙ (λ i. e i || (f i || false))

  unit_untrue : (m : ℤ) (c : Clause) → truth_of ts m ≡ truth.Open → falsified_but ts m c ≡ true → satisfied ts c ≡ false
  unfolding satisfied falsified_but
  unit_untrue m [] o e = refl
  unit_untrue m (x ∷ c) o e =
      let parts = and_parts (is_false (truth_of ts x) || int_eq m x) (falsified_but ts m c) e in
      let first : is_true (truth_of ts x) ≡ false = elim (or_cases (is_false (truth_of ts x)) (int_eq m x) parts.0) [
        | inl f ↦ false_untrue (truth_of ts x) f
        | inr s ↦ ap (λ y. is_true (truth_of ts y)) (sym (same_is m x s)) ∙ ap is_true o
      ] in
      (λ i. first i || unit_untrue m c o parts.1 i)

  some_more : (m : ℤ) (c : Clause) (l : ℤ) → falsified_but ts m c ≡ false → falsified_but ts m (c ++ l ∷ []) ≡ false
  unfolding falsified_but
  some_more m c l e = list_all-append (λ x. is_false (truth_of ts x) || int_eq m x) c (l ∷ []) ∙ (λ i. e i && falsified_but ts m (l ∷ []))

  some_last : (m : ℤ) (c : Clause) (l : ℤ) → is_false (truth_of ts l) ≡ false → int_eq m l ≡ false → falsified_but ts m (c ++ l ∷ []) ≡ false
  unfolding falsified_but
  some_last m c l f n =
      list_all-append (λ x. is_false (truth_of ts x) || int_eq m x) c (l ∷ []) ∙ (λ i. falsified_but ts m c && ((f i || n i) && true)) ∙ none_after (falsified_but ts m c)

  some_member : (m : ℤ) (c : Clause) (l : ℤ) → has c m ≡ true → is_false (truth_of ts m) ≡ false → int_eq l m ≡ false → falsified_but ts l c ≡ false
  unfolding has falsified_but
  some_member m [] l h f n = absurd (false≢true h)
  some_member m (x ∷ c) l h f n = elim (or_cases (int_eq m x) (has c m) h) [
    | inl s ↦ let same = same_is m x s in
        (λ i. (is_false (truth_of ts (sym same i)) || int_eq l (sym same i)) && falsified_but ts l c) ∙ (λ i. (f i || n i) && falsified_but ts l c)
    | inr t ↦ ap (λ b. (is_false (truth_of ts x) || int_eq l x) && b) (some_member m c l t f n) ∙ none_after (is_false (truth_of ts x) || int_eq l x)
  ]

  satisfied_more : (c : Clause) (l : ℤ) → satisfied ts c ≡ true → satisfied ts (c ++ l ∷ []) ≡ true
  unfolding satisfied
  satisfied_more c l e = list_any-append (λ m. is_true (truth_of ts m)) c (l ∷ []) ∙ or_left _ _ e

  falsified_more : (c : Clause) (l : ℤ) → falsified ts c ≡ true → truth_of ts l ≡ truth.False → falsified ts (c ++ l ∷ []) ≡ true
  unfolding falsified
  falsified_more c l e f =
      list_all-append (λ m. is_false (truth_of ts m)) c (l ∷ []) ∙ and_from _ _ e (and_from _ true (ap is_false f) refl)

  but_more : (m : ℤ) (c : Clause) (l : ℤ) → falsified_but ts m c ≡ true → (is_false (truth_of ts l) || int_eq m l) ≡ true → falsified_but ts m (c ++ l ∷ []) ≡ true
  unfolding falsified_but
  but_more m c l e f =
      list_all-append (λ x. is_false (truth_of ts x) || int_eq m x) c (l ∷ []) ∙ and_from _ _ e (and_from _ true f refl)

  but_none : (m : ℤ) (c : Clause) → falsified ts c ≡ true → falsified_but ts m c ≡ true
  unfolding falsified falsified_but
  but_none m [] e = refl
  but_none m (x ∷ c) e =
      let parts = and_parts (is_false (truth_of ts x)) (falsified ts c) e in
      and_from _ _ (or_left _ (int_eq m x) parts.0) (but_none m c parts.1)

  member_more : (c : Clause) (l m : ℤ) → has c m ≡ true → has (c ++ l ∷ []) m ≡ true
  member_more c l m h = has_more c l m ∙ or_left _ _ h

  member_last : (c : Clause) (l m : ℤ) → int_eq m l ≡ true → has (c ++ l ∷ []) m ≡ true
  member_last c l m s = has_more c l m ∙ or_right (has c m) _ s

  pub look_on : (c : Clause) (l : ℤ) (k : Look) → LookOf ts c k → truth_of ts l ≡ truth.False → LookOf ts (c ++ l ∷ []) k
  look_on c l look.Satisfied h f = satisfied_more c l h
  look_on c l look.Falsified h f = falsified_more c l h f
  look_on c l (look.Unit m) h f = record {
    is_free = h.is_free;
    member = member_more c l m h.member;
    others = but_more m c l h.others (or_left _ _ (ap is_false f));
  }
  look_on c l (look.Undecided m) h f = record {
    is_free = h.is_free;
    member = member_more c l m h.member;
    none_true = untrue_more c l h.none_true (ap is_true f);
    others = some_more m c l h.others;
  }

  -- of two literals without a truth the preferred one is chosen
  chosen : (c : Clause) (m l : ℤ) → IsOpen ts m → has c m ≡ true → satisfied ts c ≡ false → IsOpen ts l → (int_eq l m ≡ false) ⊎ (falsified_but ts m c ≡ false)
      → LookOf ts (c ++ l ∷ []) (look.Undecided (preferred m l))
  chosen c m l free member untrue o apart =
      let none_true = untrue_more c l untrue (ap is_true o.without_truth) in
      cond_both (is_positive m) m l (IsUndecided ts (c ++ l ∷ []))
      (λ _. record {
        is_free = free;
        member = member_more c l m member;
        none_true = none_true;
        others = elim apart [ inl n ↦ some_last m c l (ap is_false o.without_truth) (other_way l m n) | inr some ↦ some_more m c l some ];
      })
      (λ _. record {
        is_free = o;
        member = member_last c l l (same_refl l);
        none_true = none_true;
        others = elim (cases_Bool (int_eq l m)) [
          | inr n ↦ some_member m (c ++ l ∷ []) l (member_more c l m member) (ap is_false free.without_truth) n
          | inl s ↦ elim apart [
            | inl n ↦ absurd (false≢true (sym n ∙ s))
            | inr some ↦ subst (λ x. falsified_but ts x (c ++ l ∷ []) ≡ false) (sym (same_is l m s)) (some_more m c l some)
          ]
        ];
      })

  pub look_opened : (c : Clause) (l : ℤ) (k : Look) → LookOf ts c k → IsOpen ts l → LookOf ts (c ++ l ∷ []) (opened k l)
  look_opened c l look.Satisfied h o = satisfied_more c l h
  look_opened c l look.Falsified h o = record {
    is_free = o;
    member = member_last c l l (same_refl l);
    others = but_more l c l (but_none l c h) (or_right (is_false (truth_of ts l)) _ (same_refl l));
  }
  look_opened c l (look.Unit m) h o =
      cond_both (int_eq l m) _ _ (LookOf ts (c ++ l ∷ []))
      (λ s. record {
        is_free = h.is_free;
        member = member_more c l m h.member;
        others = but_more m c l h.others (or_right (is_false (truth_of ts l)) _ (same_sym l m s));
      })
      (λ s. chosen c m l h.is_free h.member (unit_untrue m c h.is_free.without_truth h.others) o (inl s))
  look_opened c l (look.Undecided m) h o = chosen c m l h.is_free h.member h.none_true o (inr h.others)

  pub satisfied_at : (c : Clause) (i : ℕ) (d : ℤ) → i < length c → truth_of ts (get_or c i d) ≡ truth.True → satisfied ts c ≡ true
  unfolding satisfied
  satisfied_at c i d lt e = list_any_at (λ m. is_true (truth_of ts m)) c i d lt (ap is_true e)
