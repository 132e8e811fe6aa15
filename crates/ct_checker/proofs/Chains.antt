-- Walking the chains of a marks table, and adding to them.
use Rattle.std.proofs.Common.{◌≡◌, ◌≢◌, ℕ, zero, suc, ◌+◌, ◌<◌, ◌≤◌, true, false, List, [], ◌∷◌, ◌++◌, length, get_or, set, refl, ap, sym, ◌∙◌, subst, arith, inl, inr, length-append, length-set, get_or-set_other, get_or-set_same}
use Rattle.std.proofs.lemmas.Bool.{or_from, both_ways, cases_Bool, cases_eq, cases_lt}
use Rattle.ct_derivation.{specs.declared.literals.Lit.Lit, specs.Literal.{same_lit, has}, proofs.Members.same_lit_is}
use Rattle.ct_checker.specs.Linked.{bucket_of, Reaches, here, down, Linked, IsHead}

get_or_any : {X : Type 0} (xs : List X) (i : ℕ) (d e : X) → i < length xs → get_or xs i d ≡ get_or xs i e
get_or_any [] i d e lt = absurd (omega arith)
get_or_any (x ∷ xs) zero d e lt = refl
get_or_any (x ∷ xs) (suc i) d e lt = get_or_any xs i d e (omega arith)

has_none : (falses : List Lit) (l : Lit) → ((j : ℕ) (d : Lit) → j < length falses → same_lit l (get_or falses j d) ≡ true → ⊥) → has falses l ≡ false
unfolding has
has_none [] l none = refl
has_none (m ∷ falses) l none =
    or_from _ _ (elim (cases_Bool (same_lit l m)) [ inl t ↦ absurd (none 0 m (omega arith) t) | inr f ↦ f ])
    (has_none falses l (λ j d lt. none (suc j) d (omega arith)))

below : (next : List ℕ) (n j i : ℕ) → Reaches next n j i → i < n
below next n j i (here lt e) = lt
below next n j i (down lt s r) = lt

lower : (next : List ℕ) (n j i : ℕ) → Reaches next n j i → (i ≡ j → ⊥) → (get_or next i 0 < i) × Reaches next n j (get_or next i 0)
lower next n j i (here lt e) ne = absurd (ne e)
lower next n j i (down lt s r) ne = (s, r)

module _ (falses : List Lit) (next : List ℕ) (l : Lit) (place : ℕ) (head : IsHead falses next place l) where
  pub past : length falses ≤ place → has falses l ≡ false
  past le = has_none falses l (λ j d lt s. let b = below next (length falses) j place (head.leads j d lt s) in omega (arith, b, le))

  module _ (d : Lit) (other : same_lit l (get_or falses place d) ≡ false) (within : place < length falses) where
    apart : (j : ℕ) (e : Lit) → same_lit l (get_or falses j e) ≡ true → place ≡ j → ⊥
    apart j e s is = both_ways _ other (ap (same_lit l) (get_or_any falses place d e within) ∙ ap (λ k. same_lit l (get_or falses k e)) is ∙ s)

    pub goes_on : IsHead falses next (get_or next place 0) l
    goes_on = record { leads = λ j e lt s. (lower next (length falses) j place (head.leads j e lt s) (apart j e s)).1 }

    pub ends : place ≤ get_or next place 0 → has falses l ≡ false
    ends le = has_none falses l (λ j e lt s. let b = (lower next (length falses) j place (head.leads j e lt s) (apart j e s)).0 in omega (arith, b, le))

front : {X : Type 0} (xs ys : List X) (i : ℕ) (d : X) → i < length xs → get_or (xs ++ ys) i d ≡ get_or xs i d
front [] ys i d lt = absurd (omega arith)
front (x ∷ xs) ys zero d lt = refl
front (x ∷ xs) ys (suc i) d lt = front xs ys i d (omega arith)

middle : {X : Type 0} (xs : List X) (x d : X) → get_or (xs ++ x ∷ []) (length xs) d ≡ x
middle [] x d = refl
middle (y ∷ xs) x d = middle xs x d

-- a chain stays as places are added
more : (next next2 : List ℕ) (n m j i : ℕ) → n ≤ m → ((k : ℕ) → k < n → get_or next2 k 0 ≡ get_or next k 0) → Reaches next n j i → Reaches next2 m j i
more next next2 n m j i le same (here lt e) = here (omega (arith, le, lt)) e
more next next2 n m j i le same (down lt s r) =
    down (omega (arith, le, lt)) (omega (arith, same i lt, s)) (subst (Reaches next2 m j) (sym (same i lt)) (more next next2 n m j (get_or next i 0) le same r))

pub none_linked : (heads next : List ℕ) → Linked [] heads next
none_linked heads next = record { reach = λ j d lt. absurd (omega arith) }

pub head_of : (falses : List Lit) (heads next : List ℕ) (l : Lit) → Linked falses heads next → IsHead falses next (get_or heads (bucket_of (length heads) l) 0) l
head_of falses heads next l linked = record {
  leads = λ j d lt s.
      subst (λ m. Reaches next (length falses) j (get_or heads (bucket_of (length heads) m) 0)) (sym (same_lit_is l (get_or falses j d) s)) (linked.reach j d lt);
}

module _ (falses : List Lit) (heads next : List ℕ) (l : Lit) (linked : Linked falses heads next) (k : ℕ) (k_is : k ≡ bucket_of (length heads) l)
    (within : k < length heads) (room : length falses < length next) where
  abbrev heads2 : List ℕ
  heads2 = set heads k (length falses)

  abbrev next2 : List ℕ
  next2 = set next (length falses) (get_or heads k 0)

  abbrev n2 : ℕ
  n2 = length (falses ++ l ∷ [])

  n2_is : n2 ≡ length falses + 1
  n2_is = omega (arith, length-append falses (l ∷ []))

  kept : (i : ℕ) → i < length falses → get_or next2 i 0 ≡ get_or next i 0
  kept i lt = let ne : i ≢ length falses = omega arith in rw get_or-set_other refl

  new_head : get_or heads2 k 0 ≡ length falses
  new_head = get_or-set_same heads k (length falses) 0 within

  new_next : get_or next2 (length falses) 0 ≡ get_or heads k 0
  new_next = get_or-set_same next (length falses) (get_or heads k 0) 0 room

  old_chain : (j i : ℕ) → Reaches next (length falses) j i → Reaches next2 n2 j i
  old_chain j i r = more next next2 (length falses) n2 j i (omega (arith, n2_is)) kept r

  -- the chain of a literal's bucket, when a place has been put in front of bucket k
  from_head : (j h : ℕ) → Reaches next (length falses) j (get_or heads h 0) → Reaches next2 n2 j (get_or heads2 h 0)
  from_head j h r =
      elim (cases_eq h k) [
        | inl e ↦
            let r2 : Reaches next (length falses) j (get_or heads k 0) = subst (λ x. Reaches next (length falses) j (get_or heads x 0)) e r in
            subst (λ x. Reaches next2 n2 j (get_or heads2 x 0)) (sym e) (subst (Reaches next2 n2 j) (sym new_head)
            (down (omega (arith, n2_is)) (let b = below next (length falses) j (get_or heads k 0) r2 in omega (arith, new_next, b)) (subst (Reaches next2 n2 j) (sym new_next) (old_chain j _ r2))))
        | inr ne ↦ subst (Reaches next2 n2 j) (sym (get_or-set_other heads k h (length falses) 0 ne)) (old_chain j _ r)
      ]

  pub linked_more : Linked (falses ++ l ∷ []) heads2 next2
  linked_more = record {
    reach = λ j d lt.
        subst (λ b. Reaches next2 n2 j (get_or heads2 (bucket_of b (get_or (falses ++ l ∷ []) j d)) 0)) (sym (length-set heads k (length falses)))
        (elim (cases_lt j (length falses)) [
          | inl old ↦ subst (λ x. Reaches next2 n2 j (get_or heads2 (bucket_of (length heads) x) 0)) (sym (front falses (l ∷ []) j d old)) (from_head j _ (linked.reach j d old))
          | inr new ↦
              let is : j ≡ length falses = omega (arith, n2_is, lt, new) in
              let lit : get_or (falses ++ l ∷ []) j d ≡ l = ap (λ x. get_or (falses ++ l ∷ []) x d) is ∙ middle falses l d in
              subst (λ x. Reaches next2 n2 j (get_or heads2 (bucket_of (length heads) x) 0)) (sym lit)
              (subst (λ x. Reaches next2 n2 j (get_or heads2 x 0)) k_is (subst (Reaches next2 n2 j) (sym new_head) (here (omega (arith, n2_is)) (sym is))))
        ]);
  }
