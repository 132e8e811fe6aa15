-- The classes while true equalities join them, and when all have.
use Rattle.std.proofs.Common.{◌≡◌, ◌<◌, ◌≤◌, ◌+◌, ℕ, Bool, true, List, length, get_or, Some, None, ap, sym, ◌∙◌, subst, inl, inr, arith}
use Rattle.std.{specs.Prelude.slice_get, proofs.lemmas.List.length-map, proofs.lemmas.Bool.{cases_Bool}}
use Rattle.ct_chain.specs.Seen.{AreDistinct}
use Rattle.ct_derivation.specs.declared.literals.Atom.{Atom}
use Rattle.ct_derivation.specs.Path.{is_constant}
use Rattle.ct_equality.{specs.declared.classes.Member.Member, specs.Terms.{is_among, is_end_of}, specs.Members.{is_listed, class_of, member_at, members_at}}
use Rattle.ct_equality.specs.Joining.{clash_by, joined_by}
use Rattle.ct_equality.specs.Assigned.{Joined, IsClash, are_plain}
use Rattle.ct_equality.specs.Classes.{AreListed, AreClasses, AreJoined, Merges}
use Rattle.ct_equality.specs.Forest.{IsSound, IsForest, IsJoining}
use Rattle.ct_equality.specs.Indexed.{classed}
use Rattle.ct_equality.{proofs.Members.class_unlisted, proofs.Joins.no_change, proofs.Steps.{joined_more, clash_found}, proofs.Listed.{alone, alone_class, alone_listed}, proofs.Trees.among_at}
use Rattle.ct_equality.proofs.Indexed.{one_place, classed_listed, classed_class, classed_number, classed_taken}

module _ (words : List ℕ) (atoms : List Atom) (truth : List Bool) (us : List ℕ) where
  -- each term is alone
  pub joining_none : (ps : List ℕ) → AreDistinct us → length ps ≡ length us → ((j : ℕ) → j < length us → get_or ps j 0 ≡ j) → IsJoining words atoms truth 0 us ps us
  joining_none ps distinct count each = record {
    sound = record { count = sym count; low = λ i lt. let e = each i (omega (arith, count, lt)) in omega (arith, e) };
    members = members_at words us;
    forest = record {
      count = count;
      led = λ i lt. ap (λ j. class_of (members_at words us) (get_or us j 0)) (each i (omega (arith, count, lt)));
      roots = λ i lt e. alone_class words us (get_or us i 0);
      apart = λ i j a b e f q. one_place us distinct i j a b q;
      within = λ i lt. ap (is_listed (members_at words us)) (alone_class words us (get_or us i 0)) ∙ alone_listed words us (get_or us i 0) ∙ among_at us i lt;
    };
    joined = record { classes = alone words atoms truth us; merges = no_change (members_at words us); closed = λ k s t lt e f. absurd (omega (arith, lt)) };
  }

  module _ (plain : are_plain words atoms ≡ true) (all : (p : ℕ) → is_among us p ≡ is_end_of atoms p) (k : ℕ) (ps cs : List ℕ) (now : IsJoining words atoms truth k us ps cs)
      (a : Atom) (b : Bool) (a_at : slice_get atoms k ≡ Some a) (b_at : slice_get truth k ≡ Some b) where
    listed : AreListed atoms (members_at words us)
    listed p e = alone_listed words us p ∙ all p ∙ e

    pub joining_more : (qs ds : List ℕ) → IsSound qs ds → clash_by words now.members a b ≡ None → IsForest us (joined_by words now.members a b) qs ds → IsJoining words atoms truth (k + 1) us qs ds
    joining_more qs ds sound none forest = record {
      sound = sound;
      members = joined_by words now.members a b;
      forest = forest;
      joined = joined_more words atoms truth now.members now.joined.classes (members_at words us) k plain listed now.joined.merges now.joined.closed a b a_at b_at none;
    }

    pub joining_clash : (c : ℕ × ℕ) → clash_by words now.members a b ≡ Some c → IsClash words atoms truth c.0 c.1
    joining_clash c some = clash_found words atoms truth now.members now.joined.classes (members_at words us) k plain listed now.joined.merges now.joined.closed a b c a_at b_at some

  -- the same classes, in the order of the terms
  module _ (n : ℕ) (ms : List Member) (are : AreJoined words atoms truth n (members_at words us) ms) where
    abbrev ns : List Member
    ns = classed words ms us

    listed_there : (p : ℕ) → is_listed ms p ≡ is_among us p
    listed_there p = are.merges.listed p ∙ alone_listed words us p

    same_class : (p : ℕ) → class_of ns p ≡ class_of ms p
    same_class p = elim (cases_Bool (is_among us p)) [
      | inl t ↦ classed_class words ms us p t
      | inr f ↦ class_unlisted ns p (classed_listed words ms us p ∙ f) ∙ sym (class_unlisted ms p (listed_there p ∙ f))
    ]

    same_listed : (p : ℕ) → is_listed ns p ≡ is_listed ms p
    same_listed p = classed_listed words ms us p ∙ sym (listed_there p)

    classes_there : AreClasses words atoms truth ns
    classes_there = record {
      joined = λ p. subst (Joined atoms truth p) (sym (same_class p)) (are.classes.joined p);
      chief = λ p. same_class (class_of ns p) ∙ ap (class_of ms) (same_class p) ∙ are.classes.chief p ∙ sym (same_class p);
      constants = λ p e. same_class p ∙ are.classes.constants p e;
      within = λ p e. same_listed (class_of ns p) ∙ ap (is_listed ms) (same_class p) ∙ are.classes.within p (sym (same_listed p) ∙ e);
      least = λ p e. subst (λ c. c ≤ p) (sym (same_class p)) (are.classes.least p (ap (is_constant words) (sym (same_class p)) ∙ e));
    }

    merges_there : Merges (members_at words us) ns
    merges_there = record {
      count = length-map us _ ∙ sym (length-map us (member_at words));
      listed = λ p. classed_listed words ms us p ∙ sym (alone_listed words us p);
      numbers = λ p. classed_number words ms us p;
      taken = λ j. classed_taken words ms us j;
      grows = λ p q e. same_class p ∙ are.merges.grows p q e ∙ sym (same_class q);
    }

    pub classed_joined : AreJoined words atoms truth n (members_at words us) ns
    classed_joined = record { classes = classes_there; merges = merges_there; closed = λ j s t lt e f. same_class s ∙ are.closed j s t lt e f ∙ sym (same_class t) }
