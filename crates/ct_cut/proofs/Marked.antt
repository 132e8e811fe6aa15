-- Marks of places, and more of them.
use Rattle.std.proofs.Common.{◌≡◌, ℕ, zero, suc, ◌<◌, Bool, true, false, List, [], ◌∷◌, length, replicate, get_or, set, refl, ◌∙◌, sym, subst, arith, inl, inr, ◌⊎◌, length-set, get_or-set_other, get_or-set_same}
use Rattle.std.{specs.Prelude.Contains, proofs.lemmas.Bool.{false≢true, cases_eq, cases_lt}, proofs.lemmas.List.{length-replicate, get_or-replicate, get_or_past}}
use Rattle.ct_word.proofs.Items.{first_item, later_item, item_cases, no_item}
use Rattle.ct_cut.specs.Marks.{is_marked, with_marks}

-- more marks
pub length_marked : (ms : List Bool) (ps : List ℕ) → length (with_marks ms ps) ≡ length ms
length_marked ms [] = refl
length_marked ms (p ∷ ps) = length_marked (set ms p true) ps ∙ length-set ms p true

set_mark : (ms : List Bool) (q p : ℕ) → is_marked ms p ≡ true → is_marked (set ms q true) p ≡ true
set_mark [] q p e = e
set_mark (m ∷ ms) zero zero e = refl
set_mark (m ∷ ms) zero (suc p) e = e
set_mark (m ∷ ms) (suc q) zero e = e
set_mark (m ∷ ms) (suc q) (suc p) e = set_mark ms q p e

pub still_marked : (ms : List Bool) (ps : List ℕ) (p : ℕ) → is_marked ms p ≡ true → is_marked (with_marks ms ps) p ≡ true
still_marked ms [] p e = e
still_marked ms (q ∷ ps) p e = still_marked (set ms q true) ps p (set_mark ms q p e)

pub now_marked : (ms : List Bool) (ps : List ℕ) (p : ℕ) → p < length ms → Contains ps p → is_marked (with_marks ms ps) p ≡ true
now_marked ms [] p lt h = absurd (no_item p h)
now_marked ms (q ∷ ps) p lt h =
    elim (item_cases ps q p h) [
      | inl e ↦ still_marked (set ms q true) ps p (subst (λ r. is_marked (set ms r true) p ≡ true) (sym e) (get_or-set_same ms p true false lt))
      | inr there ↦ now_marked (set ms q true) ps p (omega (arith, length-set ms q true, lt)) there
    ]

pub marked_cases : (ms : List Bool) (ps : List ℕ) (p : ℕ) → is_marked (with_marks ms ps) p ≡ true → (is_marked ms p ≡ true) ⊎ Contains ps p
marked_cases ms [] p e = inl e
marked_cases ms (q ∷ ps) p e =
    elim (marked_cases (set ms q true) ps p e) [
      | inr there ↦ inr (later_item ps q p there)
      | inl m ↦ elim (cases_eq p q) [
        | inl same ↦ inr (subst (λ r. Contains (q ∷ ps) r) (sym same) (first_item ps q))
        | inr other ↦ inl (sym (get_or-set_other ms q p true false other) ∙ m)
      ]
    ]

pub marked_within : (ms : List Bool) (p : ℕ) → is_marked ms p ≡ true → p < length ms
marked_within [] p e = absurd (false≢true e)
marked_within (m ∷ ms) zero e = omega arith
marked_within (m ∷ ms) (suc p) e = omega (arith, marked_within ms p e)

blank : (n p : ℕ) → get_or (replicate n false) p false ≡ false
blank n p = elim (cases_lt p n) [
  | inl lt ↦ get_or-replicate n p false false lt
  | inr ge ↦ get_or_past (replicate n false) p false (omega (arith, length-replicate n false, ge))
]

-- where a walk begins, one place is marked
pub only_marked : (n root p : ℕ) → is_marked (set (replicate n false) root true) p ≡ true → p ≡ root
only_marked n root p e = elim (cases_eq p root) [
  | inl same ↦ same
  | inr other ↦ absurd (false≢true (sym (blank n p) ∙ sym (get_or-set_other (replicate n false) root p true false other) ∙ e))
]
