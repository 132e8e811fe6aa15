-- One list of cells more is linked, and cells are sought along their slot.
use Rattle.std.proofs.Common.{◌≡◌, ◌≢◌, ◌⊎◌, ℕ, ◌+◌, ◌<◌, ◌≤◌, List, [], ◌∷◌, ◌++◌, length, get_or, set, replicate, sym, ap, ◌∙◌, subst, arith, inl, inr}
use Rattle.std.{proofs.lemmas.Bool.{cases_eq, cases_lt}, proofs.lemmas.List.Quantifiers.all_pairs_push}
use Rattle.std.proofs.lemmas.List.{get_or_append_left, get_or_push, get_or-set_same, get_or-set_other, get_or-replicate, length_push}
use Rattle.ct_rows.{specs.Slots.slot_of, specs.Links.{IsLast, AreLinked, IsSought}}

-- the slot of the cells at a place
abbrev own : ℕ → List (List ℕ) → ℕ → ℕ
own n keys p = slot_of n (get_or keys p [])

-- nothing is in any slot yet
pub none_linked : (n : ℕ) (heads belows : List ℕ) → heads ≡ replicate n 0 → AreLinked n [] heads belows
none_linked n heads belows is = record {
  some = λ lt. absurd (omega arith);
  distinct = λ i j d lt within. absurd (omega arith);
  slots = λ s lt. empty s (get_or heads s 0) (ap (λ hs. get_or hs s 0) is ∙ get_or-replicate n s 0 0 lt);
  places = λ p lt. absurd (omega arith);
} where
  empty : (s at : ℕ) → at ≡ 0 → IsLast n [] s at 0
  empty s at e = record { within = omega arith; own = λ p is. absurd (omega arith); none = λ p from lt. absurd (omega arith) }

module _ (n : ℕ) (keys : List (List ℕ)) (k : List ℕ) where
  at_left : (p : ℕ) → p < length keys → own n (keys ++ k ∷ []) p ≡ own n keys p
  at_left p lt = ap (slot_of n) (get_or_append_left keys (k ∷ []) [] p lt)

  at_end : (p : ℕ) → length keys ≡ p → own n (keys ++ k ∷ []) p ≡ slot_of n k
  at_end p e = ap (slot_of n) (get_or_push keys k [] p e)

  -- what is known of the places before `upto` stays
  last_grows : (s at upto : ℕ) → upto ≤ length keys → IsLast n keys s at upto → IsLast n (keys ++ k ∷ []) s at upto
  last_grows s at upto le last = record {
    within = last.within;
    own = λ p e. at_left p (omega (arith, last.within)) ∙ last.own p e;
    none = λ p from lt same. last.none p from lt (sym (at_left p (omega arith)) ∙ same);
  }

  -- the new place is the last of its slot
  last_here : IsLast n (keys ++ k ∷ []) (slot_of n k) (length keys + 1) (length keys + 1)
  last_here = record {
    within = omega arith;
    own = λ p e. at_end p (omega arith);
    none = λ p from lt. absurd (omega arith);
  }

  -- and changes nothing in another slot
  last_past : (s at : ℕ) → IsLast n keys s at (length keys) → slot_of n k ≢ s → IsLast n (keys ++ k ∷ []) s at (length keys + 1)
  last_past s at last other = record {
    within = omega (arith, last.within);
    own = λ p e. at_left p (omega (arith, last.within)) ∙ last.own p e;
    none = λ p from lt same. passed p from lt same (cases_lt p (length keys));
  } where
    passed : (p : ℕ) → at ≤ p → p < length keys + 1 → own n (keys ++ k ∷ []) p ≡ s → (p < length keys) ⊎ (length keys ≤ p) → ⊥
    passed p from lt same (inl before) = last.none p from before (sym (at_left p before) ∙ same)
    passed p from lt same (inr past) = other (sym (at_end p (omega arith)) ∙ same)

module _ (n : ℕ) (keys : List (List ℕ)) (heads belows : List ℕ) (k : List ℕ) (s : ℕ) (linked : AreLinked n keys heads belows) (is : s ≡ slot_of n k) (within : s < n) where
  head_step : length heads ≡ n → (r : ℕ) → r < n → (r ≡ s) ⊎ (r ≡ s → ⊥) → IsLast n (keys ++ k ∷ []) r (get_or (set heads s (length keys + 1)) r 0) (length keys + 1)
  head_step count r lt (inl same) =
      let there : get_or (set heads s (length keys + 1)) s 0 ≡ length keys + 1 = get_or-set_same heads s (length keys + 1) 0 (omega arith) in
      subst (λ b. IsLast n (keys ++ k ∷ []) b (get_or (set heads s (length keys + 1)) b 0) (length keys + 1)) (sym same)
      (subst (λ at. IsLast n (keys ++ k ∷ []) s at (length keys + 1)) (sym there)
      (subst (λ b. IsLast n (keys ++ k ∷ []) b (length keys + 1) (length keys + 1)) (sym is) (last_here n keys k)))
  head_step count r lt (inr differs) =
      subst (λ at. IsLast n (keys ++ k ∷ []) r at (length keys + 1)) (sym (get_or-set_other heads s r (length keys + 1) 0 differs))
      (last_past n keys k r (get_or heads r 0) (linked.slots r lt) (λ e. differs (sym e ∙ sym is)))

  place_step : length belows ≡ length keys → (p : ℕ) → p < length keys + 1 → (p < length keys) ⊎ (length keys ≤ p) → IsLast n (keys ++ k ∷ []) (own n (keys ++ k ∷ []) p) (get_or (belows ++ get_or heads s 0 ∷ []) p 0) p
  place_step same p lt (inl before) =
      subst (λ r. IsLast n (keys ++ k ∷ []) r (get_or (belows ++ get_or heads s 0 ∷ []) p 0) p) (sym (at_left n keys k p before))
      (subst (λ at. IsLast n (keys ++ k ∷ []) (own n keys p) at p) (sym (get_or_append_left belows (get_or heads s 0 ∷ []) 0 p (omega arith)))
      (last_grows n keys k (own n keys p) (get_or belows p 0) p (omega arith) (linked.places p before)))
  place_step same p lt (inr past) =
      let end : length keys ≡ p = omega arith in
      subst (λ r. IsLast n (keys ++ k ∷ []) r (get_or (belows ++ get_or heads s 0 ∷ []) p 0) p) (is ∙ sym (at_end n keys k p end))
      (subst (λ at. IsLast n (keys ++ k ∷ []) s at p) (sym (get_or_push belows (get_or heads s 0) 0 p (same ∙ end)))
      (subst (λ q. IsLast n (keys ++ k ∷ []) s (get_or heads s 0) q) end
      (last_grows n keys k s (get_or heads s 0) (length keys) (omega arith) (linked.slots s within))))

  -- new cells are put last, and at the head of their slot
  pub linked_push : length heads ≡ n → length belows ≡ length keys → ((p : ℕ) (d : List ℕ) → p < length keys → get_or keys p d ≢ k)
      → AreLinked n (keys ++ k ∷ []) (set heads s (length keys + 1)) (belows ++ get_or heads s 0 ∷ [])
  linked_push count same new =
      let more : length (keys ++ k ∷ []) ≡ length keys + 1 = length_push keys k in
      record {
        some = λ lt. omega arith;
        distinct = all_pairs_push (λ x y. x ≢ y) keys k linked.distinct new;
        slots = λ r lt. subst (λ m. IsLast n (keys ++ k ∷ []) r (get_or (set heads s (length keys + 1)) r 0) m) (sym more) (head_step count r lt (cases_eq r s));
        places = λ p lt. place_step same p (omega arith) (cases_lt p (length keys));
      }

-- where the search for cells begins
pub sought_first : (n : ℕ) (keys : List (List ℕ)) (heads belows : List ℕ) (k : List ℕ) (s at : ℕ) → AreLinked n keys heads belows → s ≡ slot_of n k → s < n → at ≡ get_or heads s 0 → IsSought n keys k at
sought_first n keys heads belows k s at linked is lt head =
    let last : IsLast n keys s at (length keys) = subst (λ b. IsLast n keys s b (length keys)) (sym head) (linked.slots s lt) in
    record {
      within = last.within;
      own = λ p e. last.own p e ∙ is;
      none = λ p from below same. last.none p from below (ap (slot_of n) same ∙ sym is);
    }

-- and how it goes on past a place of other cells
pub sought_next : (n : ℕ) (keys : List (List ℕ)) (heads belows : List ℕ) (k : List ℕ) (at p : ℕ) → AreLinked n keys heads belows → IsSought n keys k at → p + 1 ≡ at → get_or keys p [] ≢ k → IsSought n keys k (get_or belows p 0)
sought_next n keys heads belows k at p linked sought e other =
    let last = linked.places p (omega (arith, sought.within)) in
    let slot = sought.own p e in
    record {
      within = omega (arith, last.within, sought.within);
      own = λ q is. last.own q is ∙ slot;
      none = λ q from below same. passed q from below same (cases_lt q p) (cases_eq q p) last slot;
    } where
      passed : (q : ℕ) → get_or belows p 0 ≤ q → q < length keys → get_or keys q [] ≡ k → (q < p) ⊎ (p ≤ q) → (q ≡ p) ⊎ (q ≡ p → ⊥) → IsLast n keys (own n keys p) (get_or belows p 0) p → own n keys p ≡ slot_of n k → ⊥
      passed q from below same (inl before) _ last slot = last.none q from before (ap (slot_of n) same ∙ sym slot)
      passed q from below same (inr past) (inl here) last slot = other (ap (λ b. get_or keys b []) (sym here) ∙ same)
      passed q from below same (inr past) (inr there) last slot = sought.none q (omega arith) below same
