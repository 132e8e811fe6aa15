-- The walk down from roots, the greatest place first.
use Rattle.std.proofs.Common.{◌≡◌, ◌≢◌, ℕ, zero, suc, ◌<◌, ◌≤◌, Bool, true, false, ◌||◌, List, [], ◌∷◌, nat_eq, nat_lt, get_or, refl, ap, sym, ◌∙◌, subst, arith, inl, inr}
use Rattle.std.{specs.Prelude.{IsTrue, Contains}, specs.List.{list_all}, specs.Ordering.{nat_cmp, is_eq}, specs.BTreeSet.{BTreeSet, Updates, IsUpperBound}, specs.Cmp.nat_cmp_is}
use Rattle.std.{specs.declared.cmp.Ordering.TheVariants.{Less, Greater}, proofs.lemmas.Map.Keys.ge_from_not_lt, proofs.lemmas.List.Elements.Contains-get_or}
use Rattle.std.proofs.lemmas.Bool.{or_left, or_right, or_cases, eq-eqb, eqb-true, ltb-true, false≢true, cases_lt, cases_eq}
use Rattle.ct_word.proofs.Items.{all_implied, first_item, later_item, item_cases, no_item}
use Rattle.ct_worlds.specs.Truths.{AreRising}
use Rattle.ct_rewrite.{specs.Below.{has, has_in, is_seen, AreAdded, IsClosedFrom, IsDownward, IsPassedTo}, proofs.Closing.{among, added_there, still_there, all_there, closed_more}}

-- a list has its items
pub any_of : (ks : List ℕ) (q : ℕ) → Contains ks q → IsTrue (has ks q)
any_of [] q h = absurd (no_item q h)
any_of (k ∷ ks) q h = elim (item_cases ks k q h) [
  | inl e ↦ or_left _ _ (eq-eqb q k (sym e))
  | inr later ↦ or_right _ _ (any_of ks q later)
]

pub of_any : (ks : List ℕ) (q : ℕ) → IsTrue (has ks q) → Contains ks q
of_any [] q e = absurd (false≢true e)
of_any (k ∷ ks) q e = elim (or_cases (nat_eq q k) (has ks q) e) [
  | inl here ↦ subst (λ p. Contains (k ∷ ks) p) (sym (eqb-true q k here)) (first_item ks k)
  | inr later ↦ later_item ks k q (of_any ks q later)
]

-- the greatest place was taken out
pub record IsTaken (old mid : ℕ → Bool) (place : ℕ) : Type 0 where
  pub was : IsTrue (old place)
  pub greatest : (q : ℕ) → IsTrue (old q) → q ≤ place
  pub gone : mid place ≡ false
  pub others : (q : ℕ) → q ≢ place → mid q ≡ old q

not_at : (place q : ℕ) → q ≢ place → is_eq (nat_cmp place q) ≡ false
not_at place q ne = elim (cases_lt q place) [
  | inl lt ↦ ap is_eq (sym (nat_cmp_is place q Greater lt))
  | inr ge ↦ ap is_eq (sym (nat_cmp_is place q Less (omega (arith, ge, ne))))
]

pub taken : (old mid : BTreeSet ℕ) (place : ℕ) → IsTrue (has_in old place) → IsUpperBound nat_cmp old place → Updates nat_cmp old mid place false → IsTaken (has_in old) (has_in mid) place
taken old mid place here top update = record {
  was = here;
  greatest = λ q e. ge_from_not_lt place q (top q e);
  gone = update.1;
  others = λ q ne. update.2 q (not_at place q ne);
}

turned : (a b c : Bool) → ((a || b) || c) ≡ ((a || c) || b)
turned true b c = refl
turned false true true = refl
turned false true false = refl
turned false false true = refl
turned false false false = refl

module _ (is_in : ℕ → Bool) (parts : ℕ → List ℕ) (roots : List ℕ) where
  pub passing_starts : (bound : ℕ) (old new : ℕ → Bool) → IsDownward is_in parts bound → IsTrue (list_all is_in roots) → ((k : ℕ) → old k ≡ false) → AreAdded old new roots
      → IsPassedTo is_in parts roots bound new []
  passing_starts bound old new down are none by = record {
    inside = inside;
    seeds = added_there (is_seen old []) (is_seen new []) roots more;
    closed = λ k le e. absurd (omega (arith, le, down.within k (inside k e)));
    lower = λ k e. down.within k (inside k (or_left (new k) false e));
    from = λ k e. absurd (false≢true e);
    rising = λ i j d lt within. absurd (omega (arith, within));
  } where
    more : AreAdded (is_seen old []) (is_seen new []) roots
    more k = ap (λ b. b || false) (by k) ∙ turned (old k) (has roots k) false

    inside : (k : ℕ) → IsTrue (is_seen new [] k) → IsTrue (is_in k)
    inside = all_there (is_seen old []) (is_seen new []) roots more is_in (λ k e. elim (or_cases (old k) false e) [ inl before ↦ absurd (false≢true (sym (none k) ∙ before)) | inr never ↦ absurd (false≢true never) ]) are

  module _ (bound : ℕ) (old mid new : ℕ → Bool) (passed : List ℕ) (place start : ℕ) (down : IsDownward is_in parts start) (so_far : IsPassedTo is_in parts roots bound old passed)
      (taken : IsTaken old mid place) (by : AreAdded mid new (parts place)) where
    here : IsTrue (is_in place)
    here = so_far.inside place (or_left (old place) (has passed place) taken.was)

    under : place < bound
    under = so_far.lower place taken.was

    -- what is seen then was seen before, or is a part of the one taken
    more : AreAdded (is_seen old passed) (is_seen new (place ∷ passed)) (parts place)
    more k = elim (cases_eq k place) [
      | inl same ↦ or_right (new k) _ (or_left (nat_eq k place) _ (eq-eqb k place same)) ∙ sym (or_left _ (has (parts place) k) (or_left (old k) _ (ap old same ∙ taken.was)))
      | inr ne ↦ (λ i. (by k i || (other ne i || has passed k))) ∙ ap (λ b. (b || has (parts place) k) || has passed k) (taken.others k ne) ∙ turned (old k) (has (parts place) k) (has passed k)
    ] where
      other : k ≢ place → nat_eq k place ≡ false
      other ne = at (nat_eq k place) refl where
        at : (b : Bool) → nat_eq k place ≡ b → b ≡ false
        at true e = absurd (ne (eqb-true k place e))
        at false e = refl

    last : (k : ℕ) → k < bound → IsTrue (is_seen old passed k) → k ≤ place
    last k lt e = elim (or_cases (old k) (has passed k) e) [ inl waits ↦ taken.greatest k waits | inr before ↦ absurd (omega (arith, lt, so_far.from k before)) ]

    rising_more : AreRising (place ∷ passed)
    rising_more i zero d lt within = absurd (omega (arith, lt))
    rising_more zero (suc j) d lt within =
        let le = so_far.from (get_or passed j d) (any_of passed _ (Contains-get_or passed j d (omega (arith, within)))) in
        omega (arith, le, under)
    rising_more (suc i) (suc j) d lt within = so_far.rising i j d (omega (arith, lt)) (omega (arith, within))

    pub passing_more : IsPassedTo is_in parts roots place new (place ∷ passed)
    passing_more = record {
      inside = all_there (is_seen old passed) (is_seen new (place ∷ passed)) (parts place) more is_in so_far.inside (down.inside place here);
      seeds = still_there (is_seen old passed) (is_seen new (place ∷ passed)) (parts place) more roots so_far.seeds;
      closed = closed_more parts (is_seen old passed) (is_seen new (place ∷ passed)) bound place more (down.lower place here) last so_far.closed;
      lower = λ k e. elim (or_cases (mid k) (has (parts place) k) (sym (by k) ∙ e)) [
        | inl before ↦
            let ne : k ≢ place = λ same. false≢true (sym taken.gone ∙ sym (ap mid same) ∙ before) in
            let le = taken.greatest k (sym (taken.others k ne) ∙ before) in
            omega (arith, le, ne)
        | inr part ↦ ltb-true k place (among (λ c. nat_lt c place) k (parts place) (down.lower place here) part)
      ];
      from = λ k e. elim (or_cases (nat_eq k place) (has passed k) e) [
        | inl same ↦ omega (arith, eqb-true k place same)
        | inr before ↦ omega (arith, so_far.from k before, under)
      ];
      rising = rising_more;
    }

  -- where none waits, what was passed is all
  module _ (bound : ℕ) (waits : ℕ → Bool) (passed : List ℕ) (so_far : IsPassedTo is_in parts roots bound waits passed) (none : (k : ℕ) → waits k ≡ false) where
    was_passed : (k : ℕ) → IsTrue (is_seen waits passed k) → IsTrue (has passed k)
    was_passed k e = elim (or_cases (waits k) (has passed k) e) [ inl waiting ↦ absurd (false≢true (sym (none k) ∙ waiting)) | inr there ↦ there ]

    pub passed_inside : (k : ℕ) → IsTrue (has passed k) → IsTrue (is_in k)
    passed_inside k e = so_far.inside k (or_right (waits k) _ e)

    pub passed_roots : IsTrue (list_all (has passed) roots)
    passed_roots = all_implied (is_seen waits passed) (has passed) was_passed roots so_far.seeds

    pub passed_closed : IsClosedFrom parts 0 (has passed)
    passed_closed k le e = all_implied (is_seen waits passed) (has passed) was_passed (parts k) (so_far.closed k (so_far.from k e) (or_right (waits k) _ e))
