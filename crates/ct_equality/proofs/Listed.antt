-- The terms of a question, and each alone in its class.
use Rattle.std.proofs.Common.{◌≡◌, ◌<◌, ◌≤◌, ℕ, zero, suc, Bool, true, false, ◌||◌, List, [], ◌∷◌, ◌++◌, length, take, get_or, Option, Some, None, nat_eq, nat_lt, refl, ap, sym, ◌∙◌, subst, if◌then◌else◌, inl, inr, arith}
use Rattle.std.{specs.List.{list_all, IsDistinct, AllByRecursion}, proofs.lemmas.Bool.Decides.nat_tests}
use Rattle.std.proofs.lemmas.Bool.{eqb-true, eq-eqb, false≢true, false_from_ne_true, cases_Bool, and_parts, or_cases, or_left, or_right, or_parts}
use Rattle.ct_derivation.specs.declared.literals.Atom.{Atom}
use Rattle.std.{specs.List.AllPairs, specs.List.Sorted.{IsPermutation, IsSorted}, specs.Ordering.nat_cmp, specs.Cmp.nat_eq_equiv, proofs.lemmas.List.Kept.AllPairs-from_increasing}
use Rattle.std.{proofs.lemmas.Map.Keys.{IsStrictlyIncreasing-from_distinct, IsDistinct-IsPermutation}, proofs.lemmas.Map.Made.length-le_from_is_member, proofs.lemmas.List.Sorted.{IsNonDecreasingBy-from_sort, list_any-IsPermutation}}
use Rattle.ct_equality.{specs.Terms.{AreAscending, inserted, terms_from, terms_of, is_among, is_end_of}, proofs.Trees.{among_at, stands}}
use Rattle.ct_equality.{specs.Members.{is_listed, class_of, number_of, number_at, same_number, is_taken, members_at}, specs.Classes.{AreListed, AreClasses}}
use Rattle.ct_equality.specs.Assigned.{Joined, here, is_plain_term, is_plain_atom, are_plain}
use Rattle.ct_derivation.specs.declared.literals.Atom.TheVariants as atom

among_inserted : (s : ℕ) (ts : List ℕ) (p : ℕ) → is_among (inserted s ts) p ≡ (nat_eq p s || is_among ts p)
among_inserted s [] p = refl
among_inserted s (t ∷ ts) p = grind (arith, nat_tests, among_inserted s ts p)

among_from : (ts : List ℕ) (atoms : List Atom) (p : ℕ) → is_among (terms_from ts atoms) p ≡ (is_among ts p || is_end_of atoms p)
among_from ts [] p = grind arith
among_from ts (atom.Node q ∷ atoms) p = among_from ts atoms p
among_from ts (atom.Same s t ∷ atoms) p =
    grind (arith, among_from (inserted t (inserted s ts)) atoms p, among_inserted t (inserted s ts) p, among_inserted s ts p)

-- the terms are those of the equalities
pub among_terms : (atoms : List Atom) (p : ℕ) → is_among (terms_of atoms) p ≡ is_end_of atoms p
among_terms atoms p = among_from [] atoms p

-- ascending, so no place twice
inserted_ascends : (s : ℕ) (ts : List ℕ) → AreAscending ts → AreAscending (inserted s ts)
inserted_ascends s [] a = (λ p e. absurd (false≢true e), tt)
inserted_ascends s (t ∷ ts) a = elim (cases_Bool (nat_lt s t)) [
  | inl l ↦ rw l (λ p e. grind (arith, nat_tests, a.0 p), a)
  | inr n ↦ elim (cases_Bool (nat_eq s t)) [
    | inl q ↦ rw (n, q) a
    | inr d ↦ rw (n, d) (λ p e. grind (arith, nat_tests, a.0 p, among_inserted s ts p), inserted_ascends s ts a.1)
  ]
]

from_ascends : (ts : List ℕ) (atoms : List Atom) → AreAscending ts → AreAscending (terms_from ts atoms)
from_ascends ts [] a = a
from_ascends ts (atom.Node q ∷ atoms) a = from_ascends ts atoms a
from_ascends ts (atom.Same s t ∷ atoms) a = from_ascends (inserted t (inserted s ts)) atoms (inserted_ascends t (inserted s ts) (inserted_ascends s ts a))

none_among : (t : ℕ) (ts : List ℕ) → is_among ts t ≡ false → AllByRecursion (λ y. nat_eq t y ≡ false) ts
none_among t [] e = tt
none_among t (y ∷ ts) e = let parts = or_parts (nat_eq t y) (is_among ts t) e in (parts.0, none_among t ts parts.1)

pub ascends_distinct : (ts : List ℕ) → AreAscending ts → IsDistinct nat_eq ts
unfolding IsDistinct
ascends_distinct [] a = tt
ascends_distinct (t ∷ ts) a = (none_among t ts (false_from_ne_true _ (λ q. let l = a.0 t q in omega (arith, l))), ascends_distinct ts a.1)

pub terms_ascend : (atoms : List Atom) → AreAscending (terms_of atoms)
terms_ascend atoms = from_ascends [] atoms tt

-- the first i of ascending places are below the next
pub first_below : (ts : List ℕ) (i : ℕ) → AreAscending ts → i < length ts → (q : ℕ) → is_among (take i ts) q ≡ true → q < get_or ts i 0
first_below [] i a lt q e = absurd (omega arith)
first_below (t ∷ ts) zero a lt q e = absurd (false≢true e)
first_below (t ∷ ts) (suc i) a lt q e = grind (arith, nat_tests, a.0 (get_or ts i 0), among_at ts i, first_below ts i a.1 (omega (arith, lt)) q)

-- of ascending places those below one stand before it
pub stands_before : (done rest : List ℕ) (t q : ℕ) → AreAscending (done ++ t ∷ rest) → is_among (done ++ t ∷ rest) q ≡ true → q < t → is_among done q ≡ true
stands_before [] rest t q a e lt = grind (arith, nat_tests, a.0 q)
stands_before (d ∷ done) rest t q a e lt = grind (arith, nat_tests, stands_before done rest t q a.1)

pub terms_distinct : (atoms : List Atom) → IsDistinct nat_eq (terms_of atoms)
terms_distinct atoms = ascends_distinct (terms_of atoms) (terms_ascend atoms)

-- what holds of both ends of each equality holds of each term
pub plain_ends : (words : List ℕ) (atoms : List Atom) (p : ℕ) → list_all (is_plain_atom words) atoms ≡ true → is_end_of atoms p ≡ true → is_plain_term words p ≡ true
plain_ends words [] p all e = absurd (false≢true e)
plain_ends words (atom.Node q ∷ atoms) p all e = plain_ends words atoms p all e
plain_ends words (atom.Same s t ∷ atoms) p all e =
    let parts = and_parts (is_plain_atom words (atom.Same s t)) (list_all (is_plain_atom words) atoms) all in
    let both = and_parts (is_plain_term words s) (is_plain_term words t) (and_parts _ (nat_lt s t) parts.0).0 in
    elim (or_cases (nat_eq p s || nat_eq p t) (is_end_of atoms p) e) [
      | inl h ↦ elim (or_cases (nat_eq p s) (nat_eq p t) h) [
        | inl a ↦ ap (is_plain_term words) (eqb-true p s a) ∙ both.0
        | inr b ↦ ap (is_plain_term words) (eqb-true p t b) ∙ both.1
      ]
      | inr r ↦ plain_ends words atoms p parts.1 r
    ]

pub plain_end : (words : List ℕ) (atoms : List Atom) (p : ℕ) → are_plain words atoms ≡ true → is_end_of atoms p ≡ true → is_plain_term words p ≡ true
unfolding are_plain
plain_end words atoms p plain e = plain_ends words atoms p plain e

-- each term alone in its class
pub alone_listed : (words ts : List ℕ) (p : ℕ) → is_listed (members_at words ts) p ≡ is_among ts p
alone_listed words [] p = refl
alone_listed words (t ∷ ts) p = grind (arith, nat_tests, alone_listed words ts p)

pub alone_class : (words ts : List ℕ) (p : ℕ) → class_of (members_at words ts) p ≡ p
alone_class words [] p = refl
alone_class words (t ∷ ts) p = grind (arith, nat_tests, alone_class words ts p)

pub alone_number : (words ts : List ℕ) (p : ℕ) → number_of (members_at words ts) p ≡ (if is_among ts p then number_at words p else None)
alone_number words [] p = refl
alone_number words (t ∷ ts) p = grind (arith, nat_tests, alone_number words ts p)

same_number_is : (o : Option ℕ) (k : ℕ) → same_number o k ≡ true → o ≡ Some k
same_number_is None k e = absurd (false≢true e)
same_number_is (Some j) k e = ap Some (eqb-true j k e)

-- a number that is taken is that of one of the terms
pub alone_taken : (words ts : List ℕ) (k : ℕ) → is_taken (members_at words ts) k ≡ true → (p : ℕ) × (is_among ts p ≡ true) × (number_at words p ≡ Some k)
alone_taken words [] k e = absurd (false≢true e)
alone_taken words (t ∷ ts) k e = elim (or_cases (same_number (number_at words t) k) (is_taken (members_at words ts) k) e) [
  | inl s ↦ (t, or_left (nat_eq t t) _ (eq-eqb t t refl), same_number_is (number_at words t) k s)
  | inr r ↦ let f = alone_taken words ts k r in (f.0, or_right (nat_eq f.0 t) _ f.1, f.2)
]

pub alone : (words : List ℕ) (atoms : List Atom) (truth : List Bool) (ts : List ℕ) → AreClasses words atoms truth (members_at words ts)
alone words atoms truth ts = record {
  joined = λ p. subst (Joined atoms truth p) (sym (alone_class words ts p)) here;
  chief = λ p. ap (class_of (members_at words ts)) (alone_class words ts p);
  constants = λ p e. alone_class words ts p;
  within = λ p e. ap (is_listed (members_at words ts)) (alone_class words ts p) ∙ e;
  least = λ p n. let e = alone_class words ts p in omega (arith, e);
}

pub all_listed : (words : List ℕ) (atoms : List Atom) → AreListed atoms (members_at words (terms_of atoms))
all_listed words atoms p e = alone_listed words (terms_of atoms) p ∙ among_terms atoms p ∙ e

module _ (x y : ℕ) (xs ys : List ℕ) (a : AreAscending (x ∷ xs)) (b : AreAscending (y ∷ ys)) (same : (p : ℕ) → is_among (x ∷ xs) p ≡ is_among (y ∷ ys) p) where
  one_head : x ≡ y
  one_head = elim (or_cases (nat_eq x y) (is_among ys x) (sym (same x) ∙ or_left (nat_eq x x) (is_among xs x) (eq-eqb x x refl))) [
    | inl e ↦ eqb-true x y e
    | inr m ↦ elim (or_cases (nat_eq y x) (is_among xs y) (same y ∙ or_left (nat_eq y y) (is_among ys y) (eq-eqb y y refl))) [
      | inl e ↦ sym (eqb-true y x e)
      | inr n ↦ let l = b.0 x m in let g = a.0 y n in absurd (omega (arith, l, g))
    ]
  ]

  same_tails : x ≡ y → (p : ℕ) → is_among xs p ≡ is_among ys p
  same_tails e p = grind (arith, nat_tests, same p, a.0 p, b.0 p)

-- ascending lists with the same places are one
pub one_ascending : (xs ys : List ℕ) → AreAscending xs → AreAscending ys → ((p : ℕ) → is_among xs p ≡ is_among ys p) → xs ≡ ys
one_ascending [] [] a b same = refl
one_ascending [] (y ∷ ys) a b same = absurd (false≢true (same y ∙ or_left (nat_eq y y) (is_among ys y) (eq-eqb y y refl)))
one_ascending (x ∷ xs) [] a b same = absurd (false≢true (sym (same x) ∙ or_left (nat_eq x x) (is_among xs x) (eq-eqb x x refl)))
one_ascending (x ∷ xs) (y ∷ ys) a b same =
    let head = one_head x y xs ys a b same in
    ap (λ h. h ∷ xs) head ∙ ap (λ l. y ∷ l) (one_ascending xs ys a.1 b.1 (same_tails x y xs ys a b same head))

pairs_ascend : (xs : List ℕ) → AllPairs (λ x y. x < y) xs → AreAscending xs
pairs_ascend [] d = tt
pairs_ascend (x ∷ xs) d = (
  λ p e. let at = stands xs p e in subst (λ q. x < q) at.is (d 0 (suc at.place) 0 (omega arith) (let w = at.within in omega (arith, w))),
  pairs_ascend xs (λ i j k lt within. d (suc i) (suc j) k (omega (arith, lt)) (omega (arith, within))),
)

-- the terms in the order of their places
pub sorted_terms : (atoms : List Atom) (places sorted : List ℕ) → IsDistinct nat_eq places → IsPermutation places sorted → IsSorted nat_cmp sorted
    → ((p : ℕ) → is_among places p ≡ is_end_of atoms p) → sorted ≡ terms_of atoms
sorted_terms atoms places sorted distinct moved order all =
    one_ascending sorted (terms_of atoms)
    (pairs_ascend sorted (AllPairs-from_increasing sorted (IsStrictlyIncreasing-from_distinct sorted (IsNonDecreasingBy-from_sort (λ x. x) sorted order)
    (IsDistinct-IsPermutation nat_eq nat_eq_equiv.symm places sorted moved distinct))))
    (terms_ascend atoms)
    (λ p. sym (list_any-IsPermutation (nat_eq p) places sorted moved) ∙ all p ∙ sym (among_terms atoms p))

-- as many terms as are met
pub no_more_terms : (atoms : List Atom) (places : List ℕ) → ((p : ℕ) → is_among places p ≡ is_end_of atoms p) → length (terms_of atoms) ≤ length places
no_more_terms atoms places all = length-le_from_is_member nat_eq_equiv (terms_of atoms) places (terms_distinct atoms) (λ q e. all q ∙ sym (among_terms atoms q) ∙ e)

pub no_more_places : (atoms : List Atom) (places : List ℕ) → IsDistinct nat_eq places → ((p : ℕ) → is_among places p ≡ true → is_end_of atoms p ≡ true) → length places ≤ length (terms_of atoms)
no_more_places atoms places distinct all = length-le_from_is_member nat_eq_equiv places (terms_of atoms) distinct (λ q e. among_terms atoms q ∙ all q e)
