-- Joining two classes.
use Rattle.std.{proofs.Common.{◌≡◌, ◌≤◌, ℕ, Bool, true, false, List, nat_eq, nat_lt, refl, ap, sym, ◌∙◌, subst, inl, inr, ◌⊎◌, arith}, specs.Prelude.slice_get}
use Rattle.std.{proofs.lemmas.Bool.{eqb-true, cases_Bool}, proofs.lemmas.Bool.Decides.nat_tests, proofs.lemmas.List.length-map}
use Rattle.ct_derivation.{specs.declared.literals.Atom.Atom, specs.Path.{pair_of, is_constant}}
use Rattle.ct_word.specs.WellFormed.{is_place_of}
use Rattle.ct_equality.{specs.declared.classes.Member.Member, specs.Members.{is_listed, class_of, moved, merged, in_class}, specs.Classes.{AreClasses, Merges}}
use Rattle.ct_equality.{specs.Joining.{kept_of, gone_of}, specs.Assigned.{Gives, IsLink, Joined, here, step}}
use Rattle.ct_equality.proofs.Members.{listed_merged, numbers_merged, taken_merged, class_merged}
use Rattle.ct_derivation.specs.declared.literals.Atom.TheVariants as atom
use Rattle.ct_word.specs.declared.kinds.Class.TheVariants as class
use Rattle.ct_word.proofs.Constants as constants

pub pair_swap : (s t : ℕ) → pair_of s t ≡ pair_of t s
pair_swap s t = grind (arith, nat_tests)

module _ (atoms : List Atom) (truth : List Bool) where
  pub link_back : (s t : ℕ) → IsLink atoms truth s t → IsLink atoms truth t s
  link_back s t l = subst (Gives atoms truth true) (pair_swap s t) l

  -- a link is the equality of its two terms, one way or the other
  pub link_cases : (s t : ℕ) → IsLink atoms truth s t → Gives atoms truth true (atom.Same s t) ⊎ Gives atoms truth true (atom.Same t s)
  link_cases s t l = elim (cases_Bool (nat_lt s t)) [ inl a ↦ inl (rw a at l) | inr a ↦ inr (rw a at l) ]

  pub joined_on : {s t u : ℕ} → Joined atoms truth s t → Joined atoms truth t u → Joined atoms truth s u
  joined_on here j = j
  joined_on (step t l r) j = step t l (joined_on r j)

  pub joined_back : {s t : ℕ} → Joined atoms truth s t → Joined atoms truth t s
  joined_back here = here
  joined_back (step {s} t l r) = joined_on (joined_back r) (step s (link_back s t l) here)

-- two classes that true equalities join: the one that goes and the one that stays
pub record TwoClasses (atoms : List Atom) (truth : List Bool) (ms : List Member) (gone kept : ℕ) : Type 0 where
  pub led : Joined atoms truth gone kept
  pub gone_listed : is_listed ms gone ≡ true
  pub kept_chief : class_of ms kept ≡ kept
  pub kept_listed : is_listed ms kept ≡ true

-- the members after an equality of s and t
pub record After (words : List ℕ) (atoms : List Atom) (truth : List Bool) (ms : List Member) (s t : ℕ) (new : List Member) : Type 0 where
  pub classes : AreClasses words atoms truth new
  pub merges : Merges ms new
  pub one : class_of new s ≡ class_of new t

module _ (words : List ℕ) (atoms : List Atom) (truth : List Bool) (ms : List Member) (are : AreClasses words atoms truth ms) where
  module _ (g k : ℕ) (two : TwoClasses atoms truth ms g k) (apart : nat_eq k g ≡ false) (free : is_constant words g ≡ false) (lower : is_constant words k ≡ false → k ≤ g) where
    abbrev after : List Member
    after = merged g k ms

    after_class : (p : ℕ) → class_of after p ≡ moved g k (class_of ms p)
    after_class p = class_merged g k ms two.gone_listed p

    -- the classes that were g's are k's now
    into_k : (c : ℕ) → Joined atoms truth c (moved g k c)
    into_k c = elim (cases_Bool (nat_eq c g)) [
      | inl t ↦ rw t (subst (λ d. Joined atoms truth d k) (sym (eqb-true c g t)) two.led)
      | inr f ↦ rw f here
    ]

    merged_classes : AreClasses words atoms truth after
    merged_classes = record {
      joined = λ p. rw (after_class p) (joined_on atoms truth (are.joined p) (into_k (class_of ms p)));
      chief = λ p. grind (arith, nat_tests, after_class, are.chief, two.kept_chief);
      constants = λ p e. grind (arith, nat_tests, after_class, are.constants);
      within = λ p e. grind (arith, nat_tests, after_class, listed_merged g k ms, are.within, two.kept_listed);
      least = λ p n. grind (arith, nat_tests, after_class, are.least, lower);
    }

    merged_grows : Merges ms after
    merged_grows = record {
      count = length-map ms (in_class g k);
      listed = listed_merged g k ms;
      numbers = numbers_merged g k ms;
      taken = taken_merged g k ms;
      grows = λ p q e. after_class p ∙ ap (moved g k) e ∙ sym (after_class q);
    }

    pub merged_after : (s t : ℕ) → moved g k (class_of ms s) ≡ moved g k (class_of ms t) → After words atoms truth ms s t after
    merged_after s t e = record { classes = merged_classes; merges = merged_grows; one = after_class s ∙ e ∙ sym (after_class t) }

pub no_change : (ms : List Member) → Merges ms ms
no_change ms = record { count = refl; listed = λ p. refl; numbers = λ p. refl; taken = λ k. refl; grows = λ p q e. e }

pub merges_on : (old mid new : List Member) → Merges old mid → Merges mid new → Merges old new
merges_on old mid new a b = record {
  count = b.count ∙ a.count;
  listed = λ p. b.listed p ∙ a.listed p;
  numbers = λ p. b.numbers p ∙ a.numbers p;
  taken = λ k. b.taken k ∙ a.taken k;
  grows = λ p q e. b.grows p q (a.grows p q e);
}

-- a constant is a term
pub constant_term : (words : List ℕ) (p : ℕ) → is_constant words p ≡ true → is_place_of words class.Term p ≡ true
unfolding is_constant
constant_term words p e = constants.constant_term (slice_get words p) e

-- the class that goes and the one that stays
module _ (words : List ℕ) (a b : ℕ) where
  pub parted : nat_eq a b ≡ false → nat_eq (kept_of words a b) (gone_of words a b) ≡ false
  parted e = grind (arith, nat_tests)

  pub kept_lower : is_constant words (kept_of words a b) ≡ false → kept_of words a b ≤ gone_of words a b
  kept_lower n = grind (arith, nat_tests)

  pub both_moved : moved (gone_of words a b) (kept_of words a b) a ≡ moved (gone_of words a b) (kept_of words a b) b
  both_moved = grind (arith, nat_tests)

  -- if the one that goes is a constant, both are
  pub both_constants : is_constant words (gone_of words a b) ≡ true → is_constant words (kept_of words a b) ≡ true
  both_constants c = grind (arith, nat_tests)
