-- The walk down from roots, the greatest place first.
use Rattle.std.proofs.Common.{◌≡◌, ◌≢◌, ◌⊎◌, ℕ, zero, suc, ◌<◌, ◌≤◌, Bool, true, false, List, [], ◌∷◌, length, nat_eq, get_or, ap, sym, ◌∙◌, subst, arith, inl, inr}
use Rattle.std.{specs.Prelude.{IsTrue, Contains}, specs.List.list_any, specs.Ordering.{nat_cmp, is_eq}, specs.BTreeSet.{BTreeSet, Updates, IsUpperBound}, specs.Cmp.nat_cmp_is}
use Rattle.std.{specs.declared.cmp.Ordering.TheVariants.{Less, Greater}, proofs.lemmas.Map.Keys.ge_from_not_lt, proofs.lemmas.List.Elements.Contains-get_or}
use Rattle.std.proofs.lemmas.Bool.{or_left, or_right, or_cases, eq-eqb, eqb-true, false≢true, cases_lt, cases_eq}
use Rattle.ct_word.{specs.WellFormed.{IsWellFormed, is_place_of}, specs.Stands.{itself}, proofs.Items.{first_item, later_item, item_cases, no_item}, proofs.Growth.place_within}
use Rattle.ct_worlds.{specs.Shape.parts_at, specs.Below.{IsReached, AreBelow}, specs.Gathering.{has, AreAdded, IsSeen, IsPassedTo}, proofs.Shaped.{below_more, part_earlier, part_named, conditions_below}}
use Rattle.ct_word.specs.declared.kinds.Class.TheVariants as class

any_of : (ks : List ℕ) (q : ℕ) → Contains ks q → list_any (nat_eq q) ks ≡ true
any_of [] q h = absurd (no_item q h)
any_of (k ∷ ks) q h = elim (item_cases ks k q h) [
  | inl e ↦ or_left _ _ (eq-eqb q k (sym e))
  | inr later ↦ or_right _ _ (any_of ks q later)
]

of_any : (ks : List ℕ) (q : ℕ) → list_any (nat_eq q) ks ≡ true → Contains ks q
of_any [] q e = absurd (false≢true e)
of_any (k ∷ ks) q e = elim (or_cases (nat_eq q k) (list_any (nat_eq q) ks) e) [
  | inl here ↦ subst (λ p. Contains (k ∷ ks) p) (sym (eqb-true q k here)) (first_item ks k)
  | inr later ↦ later_item ks k q (of_any ks q later)
]

-- the greatest place was taken out
pub record IsTaken (old mid : ℕ → Bool) (place : ℕ) : Type 0 where
  pub was : old place ≡ true
  pub greatest : (q : ℕ) → old q ≡ true → q ≤ place
  pub gone : mid place ≡ false
  pub others : (q : ℕ) → q ≢ place → mid q ≡ old q

pub not_at : (place q : ℕ) → q ≢ place → is_eq (nat_cmp place q) ≡ false
not_at place q ne = elim (cases_lt q place) [
  | inl lt ↦ ap is_eq (sym (nat_cmp_is place q Greater lt))
  | inr ge ↦ ap is_eq (sym (nat_cmp_is place q Less (omega (arith, ge, ne))))
]

pub taken : (old mid : BTreeSet ℕ) (place : ℕ) → IsTrue (has old place) → IsUpperBound nat_cmp old place → Updates nat_cmp old mid place false → IsTaken (has old) (has mid) place
taken old mid place here top update = record {
  was = here;
  greatest = λ q e. ge_from_not_lt place q (top q e);
  gone = update.1;
  others = λ q ne. update.2 q (not_at place q ne);
}

module _ (words roots : List ℕ) (formed : IsWellFormed words) where
  pub passing_starts : (bound : ℕ) (old new : ℕ → Bool) → bound ≡ length words → ((p : ℕ) → Contains roots p → is_place_of words class.Cond p ≡ true)
      → ((p : ℕ) → old p ≡ false) → AreAdded old new roots → IsPassedTo words roots bound new []
  passing_starts bound old new long are none by = record {
    waiting = λ p e. let h = root p e in record { root = p; among = h; below = itself; condition = are p h };
    lower = λ p e. omega (arith, long, place_within words class.Cond p (are p (root p e)));
    each = λ p h. absurd (no_item p h);
    from = λ p h. absurd (no_item p h);
    rising = λ i j d lt within. absurd (omega (arith, within));
    seeds = λ p h. inr (by p ∙ or_right _ _ (any_of roots p h));
    parts = λ p q h. absurd (no_item p h);
  } where
    root : (p : ℕ) → new p ≡ true → Contains roots p
    root p e = elim (or_cases (old p) (list_any (nat_eq p) roots) (sym (by p) ∙ e)) [
      | inl before ↦ absurd (false≢true (sym (none p) ∙ before))
      | inr later ↦ of_any roots p later
    ]

  module _ (bound : ℕ) (old mid new : ℕ → Bool) (passed : List ℕ) (place : ℕ) (so_far : IsPassedTo words roots bound old passed)
      (taken : IsTaken old mid place) (by : AreAdded mid new (parts_at words place)) where
    here : IsReached words roots place
    here = so_far.waiting place taken.was

    -- what waits then waited before at a lower place, or is a part of the one taken
    waits_cases : (p : ℕ) → new p ≡ true → ((old p ≡ true) × (p ≢ place)) ⊎ Contains (parts_at words place) p
    waits_cases p e = elim (or_cases (mid p) (list_any (nat_eq p) (parts_at words place)) (sym (by p) ∙ e)) [
      | inl m ↦ let ne : p ≢ place = λ same. false≢true (sym taken.gone ∙ sym (ap mid same) ∙ m) in inl (sym (taken.others p ne) ∙ m, ne)
      | inr part ↦ inr (of_any (parts_at words place) p part)
    ]

    part_reached : (p : ℕ) → Contains (parts_at words place) p → IsReached words roots p
    part_reached p h =
        let named = part_named words place p h in
        record {
          root = here.root;
          among = here.among;
          below = below_more words here.root place p named.word here.below named.there named.among;
          condition = (part_earlier words place p formed here.condition h).placed;
        }

    seen_more : (p : ℕ) → IsSeen old passed p → IsSeen new (place ∷ passed) p
    seen_more p (inl h) = inl (later_item passed place p h)
    seen_more p (inr e) = elim (cases_eq p place) [
      | inl same ↦ inl (subst (λ q. Contains (place ∷ passed) q) (sym same) (first_item passed place))
      | inr ne ↦ inr (by p ∙ or_left _ _ (taken.others p ne ∙ e))
    ]

    rising_more : (i j d : ℕ) → i < j → j < length (place ∷ passed) → get_or (place ∷ passed) i d < get_or (place ∷ passed) j d
    rising_more i zero d lt within = absurd (omega arith)
    rising_more zero (suc j) d lt within =
        let le = so_far.from (get_or passed j d) (Contains-get_or passed j d (omega (arith, within))) in
        let under = so_far.lower place taken.was in
        omega (arith, le, under)
    rising_more (suc i) (suc j) d lt within = so_far.rising i j d (omega arith) (omega (arith, within))

    pub passing_more : IsPassedTo words roots place new (place ∷ passed)
    passing_more = record {
      waiting = λ p e. elim (waits_cases p e) [ inl before ↦ so_far.waiting p before.0 | inr part ↦ part_reached p part ];
      lower = λ p e. elim (waits_cases p e) [
        | inl before ↦ let le = taken.greatest p before.0 in omega (arith, le, before.1)
        | inr part ↦ (part_earlier words place p formed here.condition part).below
      ];
      each = λ p h. elim (item_cases passed place p h) [ inl e ↦ subst (IsReached words roots) e here | inr later ↦ so_far.each p later ];
      from = λ p h. elim (item_cases passed place p h) [
        | inl e ↦ omega (arith, e)
        | inr later ↦ let le = so_far.from p later in let under = so_far.lower place taken.was in omega (arith, le, under)
      ];
      rising = rising_more;
      seeds = λ p h. seen_more p (so_far.seeds p h);
      parts = λ p q h i. elim (item_cases passed place p h) [
        | inl e ↦ inr (by q ∙ or_right _ _ (any_of (parts_at words place) q (subst (λ x. Contains (parts_at words x) q) (sym e) i)))
        | inr later ↦ seen_more q (so_far.parts p q later i)
      ];
    }

  pub passing_ends : (bound : ℕ) (waits : ℕ → Bool) (passed : List ℕ) → IsPassedTo words roots bound waits passed → ((p : ℕ) → waits p ≡ false) → AreBelow words roots passed
  passing_ends bound waits passed so_far none = record {
    rising = so_far.rising;
    each = so_far.each;
    all = λ p r. conditions_below words (Contains passed) formed (record { are = λ q h. (so_far.each q h).condition; parts = λ q s h i. passed_by s (so_far.parts q s h i) })
        r.root p r.below (passed_by r.root (so_far.seeds r.root r.among)) r.condition;
  } where
    passed_by : (p : ℕ) → IsSeen waits passed p → Contains passed p
    passed_by p (inl h) = h
    passed_by p (inr e) = absurd (false≢true (sym (none p) ∙ e))
