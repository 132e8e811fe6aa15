-- What a new truth changes.
use Rattle.std.proofs.Common.{◌≡◌, ℕ, zero, suc, ◌<◌, ◌≤◌, ◌+◌, true, false, ltb, ◌||◌, List, [], ◌∷◌, length, get_or, set, refl, ap, ◌∙◌, sym, arith, inl, inr, ◌⊎◌, pos, negsuc, neg_ℤ, ℤ, if◌then◌else◌}
use Rattle.std.{specs.Ordering.int_eq, proofs.lemmas.List.{get_or-set_same, get_or-set_other, get_or_past, set-set, set-get_or, length-set}}
use Rattle.std.{proofs.lemmas.List.Sums.sum_by-set, proofs.lemmas.Bool.{and_parts, and_from, false≢true, cases_eq, cases_lt}, proofs.lemmas.Bool.Decides.Decides-ltb}
use Rattle.ct_trail.specs.{declared.assignment.Truth.Truth, Literal.{Clause, is_literal, place_of, is_positive}}
use Rattle.ct_trail.specs.Assignment.{truth_of, inverted, is_false, assigned, open_weight, open_count, falsified, falsified_but, IsOpen}
use Rattle.ct_trail.proofs.Literals.{same_refl, opposite_literal}
use Rattle.ct_trail.specs.declared.assignment.Truth.TheVariants as truth

inverted_twice : (t : Truth) → inverted (inverted t) ≡ t
inverted_twice truth.Open = refl
inverted_twice truth.True = refl
inverted_twice truth.False = refl

pub truth_of_opposite : (ts : List Truth) (l : ℤ) → truth_of ts (neg_ℤ l) ≡ inverted (truth_of ts l)
truth_of_opposite ts (pos zero) = refl
truth_of_opposite ts (pos (suc n)) = refl
truth_of_opposite ts (negsuc n) = sym (inverted_twice (get_or ts n truth.Open))

pub open_opposite : (ts : List Truth) (l : ℤ) → IsOpen ts l → IsOpen ts (neg_ℤ l)
open_opposite ts l o = record {
  without_truth = truth_of_opposite ts l ∙ ap inverted o.without_truth;
  within = opposite_literal (length ts) l o.within;
}

past : (ts : List Truth) (k : ℕ) → ltb k (length ts) ≡ false → length ts ≤ k
past ts k e = elim (cases_lt k (length ts)) [ inl lt ↦ absurd (false≢true (sym e ∙ (Decides-ltb k (length ts)).1 lt)) | inr not_lt ↦ omega (arith, not_lt) ]

pub wider : (n m : ℕ) (l : ℤ) → n ≤ m → is_literal n l ≡ true → is_literal m l ≡ true
wider n m (pos zero) le e = e
wider n m (pos (suc k)) le e = (Decides-ltb k m).1 (omega (arith, (Decides-ltb k n).0 e))
wider n m (negsuc k) le e = (Decides-ltb k m).1 (omega (arith, (Decides-ltb k n).0 e))

-- a literal without a variable of the assignment has no truth
pub truth_past : (ts : List Truth) (l : ℤ) → is_literal (length ts) l ≡ false → truth_of ts l ≡ truth.Open
truth_past ts (pos zero) e = refl
truth_past ts (pos (suc k)) e = get_or_past ts k truth.Open (past ts k e)
truth_past ts (negsuc k) e = ap inverted (get_or_past ts k truth.Open (past ts k e))

pub place_within : (n : ℕ) (l : ℤ) → is_literal n l ≡ true → place_of l < n
place_within n (pos zero) e = absurd (false≢true e)
place_within n (pos (suc k)) e = (Decides-ltb k n).0 e
place_within n (negsuc k) e = (Decides-ltb k n).0 e

-- what stands at n after a write at k
at_set : (ts : List Truth) (k n : ℕ) (t : Truth) → k < length ts → ((n ≡ k) × (get_or (set ts k t) n truth.Open ≡ t)) ⊎ (get_or (set ts k t) n truth.Open ≡ get_or ts n truth.Open)
at_set ts k n t lt =
    elim (cases_eq n k) [
      | inl e ↦ inl (e, ap (λ i. get_or (set ts k t) i truth.Open) e ∙ get_or-set_same ts k t truth.Open lt)
      | inr ne ↦ inr (get_or-set_other ts k n t truth.Open ne)
    ]

-- a literal that is false where l is true is false, or is its opposite
pub false_before : (ts : List Truth) (l m : ℤ) → is_literal (length ts) l ≡ true → is_false (truth_of (assigned ts l) m) ≡ true → (is_false (truth_of ts m) || int_eq (neg_ℤ l) m) ≡ true
unfolding assigned
false_before ts (pos zero) m w e = absurd (false≢true w)
false_before ts (pos (suc k)) (pos zero) w e = absurd (false≢true e)
false_before ts (pos (suc k)) (pos (suc n)) w e = grind (arith, at_set ts k n truth.True ((Decides-ltb k (length ts)).0 w))
false_before ts (pos (suc k)) (negsuc n) w e = grind (arith, at_set ts k n truth.True ((Decides-ltb k (length ts)).0 w), same_refl (negsuc k))
false_before ts (negsuc k) (pos zero) w e = absurd (false≢true e)
false_before ts (negsuc k) (pos (suc n)) w e = grind (arith, at_set ts k n truth.False ((Decides-ltb k (length ts)).0 w), same_refl (pos (suc k)))
false_before ts (negsuc k) (negsuc n) w e = grind (arith, at_set ts k n truth.False ((Decides-ltb k (length ts)).0 w))

-- a clause that is false where l is true is false but for its opposite
pub but_opposite : (ts : List Truth) (l : ℤ) (c : Clause) → is_literal (length ts) l ≡ true → falsified (assigned ts l) c ≡ true → falsified_but ts (neg_ℤ l) c ≡ true
unfolding falsified falsified_but
but_opposite ts l [] w e = refl
but_opposite ts l (m ∷ c) w e =
    let parts = and_parts (is_false (truth_of (assigned ts l) m)) (falsified (assigned ts l) c) e in
    and_from _ _ (false_before ts l m w parts.0) (but_opposite ts l c w parts.1)

pub length_assigned : (ts : List Truth) (l : ℤ) → length (assigned ts l) ≡ length ts
unfolding assigned
length_assigned ts l = length-set ts (place_of l) _

inverted_open : (t : Truth) → inverted t ≡ truth.Open → t ≡ truth.Open
inverted_open truth.Open e = e
inverted_open truth.True e = cc
inverted_open truth.False e = cc

pub open_place : (ts : List Truth) (l : ℤ) → IsOpen ts l → get_or ts (place_of l) truth.Open ≡ truth.Open
open_place ts (pos zero) o = absurd (false≢true o.within)
open_place ts (pos (suc n)) o = o.without_truth
open_place ts (negsuc n) o = inverted_open (get_or ts n truth.Open) o.without_truth

-- a truth that is given and taken back changes nothing
pub reopened : (ts : List Truth) (l : ℤ) → IsOpen ts l → set (assigned ts l) (place_of l) truth.Open ≡ ts
unfolding assigned
reopened ts l o =
    set-set ts (place_of l) _ truth.Open ∙ ap (set ts (place_of l)) (sym (open_place ts l o)) ∙ set-get_or ts (place_of l) truth.Open

weight_assigned : (l : ℤ) → open_weight (if is_positive l then truth.True else truth.False) ≡ 0
weight_assigned (pos zero) = refl
weight_assigned (pos (suc n)) = refl
weight_assigned (negsuc n) = refl

-- each assignment leaves one variable less without a truth
pub fewer_open : (ts : List Truth) (l : ℤ) → IsOpen ts l → open_count (assigned ts l) + 1 ≡ open_count ts
unfolding assigned open_count
fewer_open ts l o =
    let t = if is_positive l then truth.True else truth.False in
    let changed = sum_by-set open_weight ts (place_of l) t truth.Open (place_within (length ts) l o.within) in
    let before = ap open_weight (open_place ts l o) in
    let after = weight_assigned l in
    omega (arith, changed, before, after)
