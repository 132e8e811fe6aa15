-- One more equality, and terms of one class that have to differ.
use Rattle.std.proofs.Common.{◌≡◌, ◌<◌, ◌+◌, ℕ, suc, Bool, true, false, ◌&&◌, List, [], ◌∷◌, Some, None, nat_eq, nat_lt, refl, ap, sym, ◌∙◌, subst, if◌then◌else◌, inl, inr, arith}
use Rattle.std.{specs.Prelude.slice_get, specs.List.{list_all, list_any}, proofs.lemmas.Option.{get_or_from_slice_get, slice_get_within}}
use Rattle.std.proofs.lemmas.Bool.{eqb-true, eq-eqb, ltb-true, lt-ltb, cases_Bool, cases_eq, both_ways, and_parts, and_from, or_left, or_right}
use Rattle.std.{proofs.lemmas.List.Folds.list_any_at, proofs.lemmas.List.Sums.AllPass-from_list_all}
use Rattle.ct_word.specs.WellFormed.{is_place_of}
use Rattle.ct_derivation.{specs.declared.literals.Atom.Atom, specs.Path.{pair_of, is_constant}}
use Rattle.ct_equality.{specs.declared.classes.Member.Member, specs.Members.{is_listed, class_of, merged}, specs.Terms.{is_end, is_end_of}}
use Rattle.ct_equality.specs.Joining.{prefers, kept_of, gone_of, clash_of, joined_classes, clash_by, joined_by}
use Rattle.ct_equality.specs.Assigned.{Gives, IsLink, Joined, step, IsClash, is_plain_term, is_plain_atom, are_plain, is_ordered, are_ordered}
use Rattle.ct_equality.specs.Classes.{AreListed, AreClasses, AreJoined, Merges, IsClosed, IsContradiction}
use Rattle.ct_equality.proofs.Joins.{TwoClasses, After, joined_on, joined_back, merged_after, no_change, merges_on, constant_term, parted, kept_lower, both_moved, both_constants}
use Rattle.ct_word.specs.declared.kinds.Class.TheVariants as class
use Rattle.ct_derivation.specs.declared.literals.Atom.TheVariants as atom

-- what holds of each atom holds of the one at a place
atom_at : (p : Atom → Bool) (atoms : List Atom) (k : ℕ) (a : Atom) → list_all p atoms ≡ true → slice_get atoms k ≡ Some a → p a ≡ true
atom_at p atoms k a all e = ap p (sym (get_or_from_slice_get atoms k a a e)) ∙ AllPass-from_list_all p atoms all k a (slice_get_within atoms k a e)

any_at : (p : Atom → Bool) (atoms : List Atom) (k : ℕ) (a : Atom) → slice_get atoms k ≡ Some a → p a ≡ true → list_any p atoms ≡ true
any_at p atoms k a e t = list_any_at p atoms k a (slice_get_within atoms k a e) (ap p (get_or_from_slice_get atoms k a a e) ∙ t)

pub record PlainPair (words : List ℕ) (s t : ℕ) : Type 0 where
  pub left : is_plain_term words s ≡ true
  pub right : is_plain_term words t ≡ true
  pub below : s < t

pub plain_at : (words : List ℕ) (atoms : List Atom) (k s t : ℕ) → are_plain words atoms ≡ true → slice_get atoms k ≡ Some (atom.Same s t) → PlainPair words s t
unfolding are_plain
plain_at words atoms k s t plain e =
    let parts = and_parts (is_plain_term words s && is_plain_term words t) (nat_lt s t) (atom_at (is_plain_atom words) atoms k (atom.Same s t) plain e) in
    let both = and_parts (is_plain_term words s) (is_plain_term words t) parts.0 in
    record { left = both.0; right = both.1; below = ltb-true s t parts.1 }

-- equalities of constants and nulls have the smaller place first
pub plain_ordered : (words : List ℕ) (atoms : List Atom) → are_plain words atoms ≡ true → are_ordered atoms ≡ true
unfolding are_plain are_ordered
plain_ordered words [] plain = refl
plain_ordered words (atom.Node p ∷ atoms) plain = plain_ordered words atoms plain
plain_ordered words (atom.Same s t ∷ atoms) plain =
    let parts = and_parts (is_plain_atom words (atom.Same s t)) (list_all (is_plain_atom words) atoms) plain in
    and_from (nat_lt s t) _ (and_parts (is_plain_term words s && is_plain_term words t) (nat_lt s t) parts.0).1 (plain_ordered words atoms parts.1)

pub ordered_at : (atoms : List Atom) (k s t : ℕ) → are_ordered atoms ≡ true → slice_get atoms k ≡ Some (atom.Same s t) → s < t
unfolding are_ordered
ordered_at atoms k s t ordered e = ltb-true s t (atom_at is_ordered atoms k (atom.Same s t) ordered e)

pub plain_place : (words : List ℕ) (p : ℕ) → is_plain_term words p ≡ true → is_place_of words class.Term p ≡ true
plain_place words p e = (and_parts (is_place_of words class.Term p) _ e).0

pub left_end : (atoms : List Atom) (k s t : ℕ) → slice_get atoms k ≡ Some (atom.Same s t) → is_end_of atoms s ≡ true
left_end atoms k s t e = any_at (is_end s) atoms k (atom.Same s t) e (or_left (nat_eq s s) (nat_eq s t) (eq-eqb s s refl))

pub right_end : (atoms : List Atom) (k s t : ℕ) → slice_get atoms k ≡ Some (atom.Same s t) → is_end_of atoms t ≡ true
right_end atoms k s t e = any_at (is_end t) atoms k (atom.Same s t) e (or_right (nat_eq t s) (nat_eq t t) (eq-eqb t t refl))

pub pair_below : (s t : ℕ) → s < t → pair_of s t ≡ atom.Same s t
pair_below s t lt = ap (λ b. if b then atom.Same s t else atom.Same t s) (lt-ltb s t lt)

module _ (words : List ℕ) (atoms : List Atom) (truth : List Bool) (ms : List Member) (are : AreClasses words atoms truth ms) where
  module _ (s t : ℕ) (link : IsLink atoms truth s t) (s_there : is_listed ms s ≡ true) (t_there : is_listed ms t ≡ true) where
    abbrev a : ℕ
    a = class_of ms s

    abbrev b : ℕ
    b = class_of ms t

    led : Joined atoms truth a b
    led = joined_on atoms truth (joined_back atoms truth (are.joined s)) (step t link (are.joined t))

    abbrev gone : ℕ
    gone = gone_of words a b

    abbrev kept : ℕ
    kept = kept_of words a b

    two : TwoClasses atoms truth ms gone kept
    two = elim (cases_Bool (prefers words a b)) [
      | inl p ↦ rw p (record { led = led; gone_listed = are.within s s_there; kept_chief = are.chief t; kept_listed = are.within t t_there })
      | inr n ↦ rw n (record { led = joined_back atoms truth led; gone_listed = are.within t t_there; kept_chief = are.chief s; kept_listed = are.within s s_there })
    ]

    keeps : clash_of words a b ≡ None → After words atoms truth ms s t (joined_classes words a b ms)
    unfolding clash_of joined_classes
    keeps none = elim (cases_Bool (nat_eq a b)) [
      | inl same ↦
          let e : joined_classes words a b ms ≡ ms = rw same refl in
          subst (After words atoms truth ms s t) (sym e) (record { classes = are; merges = no_change ms; one = eqb-true a b same })
      | inr apart ↦ elim (cases_Bool (is_constant words gone)) [
        | inl k ↦ let e : clash_of words a b ≡ Some (kept, gone) = rw (apart, k) refl in cc
        | inr free ↦
            let e : joined_classes words a b ms ≡ merged gone kept ms = rw (apart, free) refl in
            subst (After words atoms truth ms s t) (sym e)
            (merged_after words atoms truth ms are gone kept two (parted words a b apart) free (kept_lower words a b) s t (both_moved words a b))
      ]
    ]

    clashes : (c : ℕ × ℕ) → clash_of words a b ≡ Some c → IsClash words atoms truth c.0 c.1
    unfolding clash_of
    clashes c some = elim (cases_Bool (nat_eq a b)) [
      | inl same ↦ let e : clash_of words a b ≡ None = rw same refl in cc
      | inr apart ↦ elim (cases_Bool (is_constant words gone)) [
        | inl k ↦
            let e : clash_of words a b ≡ Some (kept, gone) = rw (apart, k) refl in
            let is : c ≡ (kept, gone) = cc in
            let kept_constant = both_constants words a b k in
            subst (λ d. IsClash words atoms truth d.0 d.1) (sym is) (record {
              differ = λ q. both_ways _ (parted words a b apart) (eq-eqb kept gone q);
              term = constant_term words kept kept_constant;
              joined = joined_back atoms truth two.led;
              apart = inl (and_from _ _ kept_constant k);
            })
        | inr free ↦ let e : clash_of words a b ≡ None = rw (apart, free) refl in cc
      ]
    ]

  module _ (old : List Member) (k : ℕ) (plain : are_plain words atoms ≡ true) (listed : AreListed atoms old) (merges : Merges old ms) (closed : IsClosed atoms truth k ms) where
    there : (p : ℕ) → is_end_of atoms p ≡ true → is_listed ms p ≡ true
    there p e = merges.listed p ∙ listed p e

    given_link : (s t : ℕ) → slice_get atoms k ≡ Some (atom.Same s t) → slice_get truth k ≡ Some true → IsLink atoms truth s t
    given_link s t e f =
        let pair = plain_at words atoms k s t plain e in
        subst (Gives atoms truth true) (sym (pair_below s t pair.below)) (record { place = k; atom_at = e; truth_at = f })

    closed_more : (new : List Member) → Merges ms new
        → ((s t : ℕ) → slice_get atoms k ≡ Some (atom.Same s t) → slice_get truth k ≡ Some true → class_of new s ≡ class_of new t) → IsClosed atoms truth (k + 1) new
    closed_more new m at_k j s t lt e f = elim (cases_eq j k) [
      | inl same ↦ at_k s t (ap (slice_get atoms) (sym same) ∙ e) (ap (slice_get truth) (sym same) ∙ f)
      | inr other ↦ m.grows s t (closed j s t (omega (arith, lt, other)) e f)
    ]

    unchanged : ((s t : ℕ) → slice_get atoms k ≡ Some (atom.Same s t) → slice_get truth k ≡ Some true → ⊥) → AreJoined words atoms truth (k + 1) old ms
    unchanged never = record {
      classes = are;
      merges = merges;
      closed = closed_more ms (no_change ms) (λ s t e f. absurd (never s t e f));
    }

    pub joined_more : (a : Atom) (b : Bool) → slice_get atoms k ≡ Some a → slice_get truth k ≡ Some b → clash_by words ms a b ≡ None
        → AreJoined words atoms truth (k + 1) old (joined_by words ms a b)
    joined_more (atom.Node p) b e f none = unchanged (λ s t g h. cc)
    joined_more (atom.Same s t) false e f none = unchanged (λ x y g h. cc)
    joined_more (atom.Same s t) true e f none =
        let new = keeps s t (given_link s t e f) (there s (left_end atoms k s t e)) (there t (right_end atoms k s t e)) none in
        record {
          classes = new.classes;
          merges = merges_on old ms _ merges new.merges;
          closed = closed_more _ new.merges (λ x y g h.
              let sx : s ≡ x = cc in let ty : t ≡ y = cc in ap (class_of (joined_by words ms (atom.Same s t) true)) (sym sx) ∙ new.one ∙ ap (class_of (joined_by words ms (atom.Same s t) true)) ty);
        }

    pub clash_found : (a : Atom) (b : Bool) (c : ℕ × ℕ) → slice_get atoms k ≡ Some a → slice_get truth k ≡ Some b → clash_by words ms a b ≡ Some c → IsClash words atoms truth c.0 c.1
    clash_found (atom.Node p) b c e f some = cc
    clash_found (atom.Same s t) false c e f some = cc
    clash_found (atom.Same s t) true c e f some = clashes s t (given_link s t e f) (there s (left_end atoms k s t e)) (there t (right_end atoms k s t e)) c some

  pub contradiction_clash : are_plain words atoms ≡ true → (s t : ℕ) → IsContradiction atoms truth ms s t → IsClash words atoms truth s t
  contradiction_clash plain s t found =
      let pair = plain_at words atoms found.given.place s t plain found.given.atom_at in
      record {
        differ = λ e. let lt = pair.below in omega (arith, lt, e);
        term = plain_place words s pair.left;
        joined = joined_on atoms truth (are.joined s) (subst (λ c. Joined atoms truth c t) (sym found.one_class) (joined_back atoms truth (are.joined t)));
        apart = inr (subst (Gives atoms truth false) (sym (pair_below s t pair.below)) found.given);
      }

-- for callers: atoms are plain where each is
pub plain_from : (words : List ℕ) (atoms : List Atom) → ((k : ℕ) (a : Atom) → slice_get atoms k ≡ Some a → is_plain_atom words a ≡ true) → are_plain words atoms ≡ true
unfolding are_plain
plain_from words [] each = refl
plain_from words (a ∷ atoms) each = and_from (is_plain_atom words a) _ (each 0 a refl) (plain_from words atoms (λ k b e. each (suc k) b e))
