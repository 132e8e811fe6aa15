-- What a step of the analysis does to the marks.
use Rattle.std.proofs.Common.{◌≡◌, ℕ, zero, suc, ◌<◌, true, List, [], ◌∷◌, length, get_or, set, refl, ap, ◌∙◌, sym, arith, inl, inr, ◌⊎◌, pos, negsuc, neg_ℤ, ℤ}
use Rattle.std.{specs.Ordering.int_eq, proofs.lemmas.List.{get_or-set_same, get_or-set_other, length-set}}
use Rattle.std.proofs.lemmas.Bool.{and_parts, and_from, false≢true, or_left, or_right, or_cases, cases_eq}
use Rattle.ct_trail.specs.{declared.marks.Mark.Mark, Literal.{Clause, is_literal, is_clause, place_of, has}}
use Rattle.ct_trail.{specs.Marks.{mark_at, is_marked, is_resolved, raised, with_kept, all_marked}, proofs.Literals.{same_is, same_refl}, proofs.Assignments.place_within}
use Rattle.ct_trail.specs.declared.marks.Mark.TheVariants as mark

pub place_opposite : (l : ℤ) → place_of (neg_ℤ l) ≡ place_of l
place_opposite (pos zero) = refl
place_opposite (pos (suc n)) = refl
place_opposite (negsuc n) = refl

pub mark_opposite : (marks : List Mark) (l : ℤ) → mark_at marks (neg_ℤ l) ≡ mark_at marks l
mark_opposite marks l = ap (λ n. get_or marks n mark.Clear) (place_opposite l)

-- the mark of a variable after a write
pub mark_set : (marks : List Mark) (l m : ℤ) (k : Mark) → place_of l < length marks
    → ((place_of m ≡ place_of l) × (mark_at (set marks (place_of l) k) m ≡ k)) ⊎ (mark_at (set marks (place_of l) k) m ≡ mark_at marks m)
mark_set marks l m k lt =
    elim (cases_eq (place_of m) (place_of l)) [
      | inl e ↦ inl (e, ap (λ i. get_or (set marks (place_of l) k) i mark.Clear) e ∙ get_or-set_same marks (place_of l) k mark.Clear lt)
      | inr ne ↦ inr (get_or-set_other marks (place_of l) (place_of m) k mark.Clear ne)
    ]

raised_marked : (k : Mark) → is_marked (raised k) ≡ true
raised_marked mark.Clear = refl
raised_marked mark.Kept = refl
raised_marked mark.Resolved = refl

raised_resolved : (k : Mark) → is_resolved (raised k) ≡ is_resolved k
raised_resolved mark.Clear = refl
raised_resolved mark.Kept = refl
raised_resolved mark.Resolved = refl

abbrev met : List Mark → ℤ → List Mark
met marks l = set marks (place_of l) (raised (mark_at marks l))

met_here : (marks : List Mark) (l : ℤ) → place_of l < length marks → is_marked (mark_at (met marks l) l) ≡ true
met_here marks l lt = ap is_marked (get_or-set_same marks (place_of l) _ mark.Clear lt) ∙ raised_marked (mark_at marks l)

met_marked : (marks : List Mark) (l m : ℤ) → place_of l < length marks → is_marked (mark_at marks m) ≡ true → is_marked (mark_at (met marks l) m) ≡ true
met_marked marks l m lt h =
    elim (mark_set marks l m (raised (mark_at marks l)) lt) [ inl e ↦ ap is_marked e.1 ∙ raised_marked (mark_at marks l) | inr e ↦ ap is_marked e ∙ h ]

met_resolved : (marks : List Mark) (l m : ℤ) → place_of l < length marks → is_resolved (mark_at (met marks l) m) ≡ is_resolved (mark_at marks m)
met_resolved marks l m lt =
    elim (mark_set marks l m (raised (mark_at marks l)) lt) [
      | inl e ↦ ap is_resolved e.1 ∙ raised_resolved (mark_at marks l) ∙ ap (λ n. is_resolved (get_or marks n mark.Clear)) (sym e.0)
      | inr e ↦ ap is_resolved e
    ]

pub with_length : (marks : List Mark) (c : Clause) → length (with_kept marks c) ≡ length marks
with_length marks [] = refl
with_length marks (l ∷ c) = with_length (met marks l) c ∙ length-set marks (place_of l) _

module _ (n : ℕ) where
  -- the variable of a first literal, and those of the others
  first_within : (l : ℤ) (c : Clause) → is_clause n (l ∷ c) ≡ true → (place_of l < n) × (is_clause n c ≡ true)
  unfolding is_clause
  first_within l c w = let parts = and_parts (is_literal n l) _ w in (place_within n l parts.0, parts.1)

  pub with_marked : (marks : List Mark) (c : Clause) → length marks ≡ n → is_clause n c ≡ true → (m : ℤ) → is_marked (mark_at marks m) ≡ true → is_marked (mark_at (with_kept marks c) m) ≡ true
  with_marked marks [] e w m h = h
  with_marked marks (l ∷ c) e w m h =
      let parts = first_within l c w in
      with_marked (met marks l) c (length-set marks (place_of l) _ ∙ e) parts.1 m (met_marked marks l m (omega (arith, parts.0, e)) h)

  pub with_resolved : (marks : List Mark) (c : Clause) → length marks ≡ n → is_clause n c ≡ true → (m : ℤ) → is_resolved (mark_at (with_kept marks c) m) ≡ is_resolved (mark_at marks m)
  with_resolved marks [] e w m = refl
  with_resolved marks (l ∷ c) e w m =
      let parts = first_within l c w in
      with_resolved (met marks l) c (length-set marks (place_of l) _ ∙ e) parts.1 m ∙ met_resolved marks l m (omega (arith, parts.0, e))

  -- each variable of the clause is marked
  pub with_each : (marks : List Mark) (c : Clause) → length marks ≡ n → is_clause n c ≡ true → (m : ℤ) → has c m ≡ true → is_marked (mark_at (with_kept marks c) m) ≡ true
  unfolding has
  with_each marks [] e w m h = absurd (false≢true h)
  with_each marks (l ∷ c) e w m h =
      let parts = first_within l c w in
      let long : length (met marks l) ≡ n = length-set marks (place_of l) _ ∙ e in
      elim (or_cases (int_eq m l) (has c m) h) [
        | inl s ↦ with_marked (met marks l) c long parts.1 m (ap (λ x. is_marked (mark_at (met marks l) x)) (same_is m l s) ∙ met_here marks l (omega (arith, parts.0, e)))
        | inr t ↦ with_each (met marks l) c long parts.1 m t
      ]

-- the mark of a variable that is not among those of the clause
pub with_apart : (marks : List Mark) (c : Clause) (q : ℤ) → ((m : ℤ) → has c m ≡ true → place_of q ≡ place_of m → ⊥) → mark_at (with_kept marks c) q ≡ mark_at marks q
unfolding has
with_apart marks [] q apart = refl
with_apart marks (l ∷ c) q apart =
    with_apart (met marks l) c q (λ m h. apart m (or_right (int_eq m l) _ h))
    ∙ get_or-set_other marks (place_of l) (place_of q) (raised (mark_at marks l)) mark.Clear (apart l (or_left _ _ (same_refl l)))

pub all_from : (marks : List Mark) (c : Clause) → ((m : ℤ) → has c m ≡ true → is_marked (mark_at marks m) ≡ true) → all_marked marks c ≡ true
unfolding all_marked has
all_from marks [] each = refl
all_from marks (l ∷ c) each = and_from _ _ (each l (or_left _ _ (same_refl l))) (all_from marks c (λ m h. each m (or_right (int_eq m l) _ h)))

pub each_of : (marks : List Mark) (c : Clause) → all_marked marks c ≡ true → (m : ℤ) → has c m ≡ true → is_marked (mark_at marks m) ≡ true
unfolding all_marked has
each_of marks [] a m h = absurd (false≢true h)
each_of marks (l ∷ c) a m h =
    let parts = and_parts (is_marked (mark_at marks l)) _ a in
    elim (or_cases (int_eq m l) (has c m) h) [ inl s ↦ ap (λ x. is_marked (mark_at marks x)) (same_is m l s) ∙ parts.0 | inr t ↦ each_of marks c parts.1 m t ]
