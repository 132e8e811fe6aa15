-- A walk over marks, from the last place down, that finds the nulls below the places that were marked first.
use Rattle.std.proofs.Common.{◌≡◌, ◌⊎◌, ◌<◌, ◌≤◌, ◌+◌, ℕ, Bool, true, false, List, [], ◌∷◌, ◌++◌, length, replicate, Some, refl, ap, sym, subst, ◌∙◌, arith, inl, inr}
use Rattle.std.{specs.Prelude.{All, IsTrue, slice_get}, specs.List.Contains, proofs.lemmas.Bool.{cases_eq, false≢true, or_left}}
use Rattle.std.{proofs.lemmas.List.{length-replicate, map-append}, proofs.lemmas.List.Folds.list_any-append, proofs.lemmas.Option.slice_get_within}
use Rattle.std.proofs.lemmas.List.Elements.{All-contains, All-nil, All-push, All-weaker}
use Rattle.ct_word.{specs.declared.values.Null.Null, specs.declared.values.Term.Term, specs.Value.{World, same_null}, proofs.Splits.some-injective}
use Rattle.ct_word.{specs.WellFormed.IsWellFormed, specs.Reading.{IsTerm, as_term, term_at}, specs.Stands.{itself, StandsAt}, proofs.Fields.named_earlier}
use Rattle.ct_condition.specs.Terms.{BelowSome}
use Rattle.ct_tidy.{specs.Marks.is_marked, specs.Nulls.{AreNullsOf, IsPart, IsReached, has_null, parts_of}, specs.Spread.{nulls_in, with_own}}
use Rattle.ct_tidy.proofs.{Gathered.{below_more, null_there, part_is, part_within, parts_named, reach, stands_null}, Marked.{AreMarked, none_marked}}
use Rattle.ct_word.specs.declared.values.Term.TheVariants as term
use Rattle.ct_word.specs.declared.values.Value.TheVariants as val

-- a term stands at a marked place, from one on
abbrev pub IsTermFrom : List ℕ → List Bool → ℕ → Term → Type 0
IsTermFrom words marks next t = (p : ℕ) × (next ≤ p) × (is_marked marks p ≡ true) × StandsAt words p (IsTerm t)

-- the marked places are reached from the roots, with the parts of those from one on, whose nulls are these
pub record IsWalked (words roots : List ℕ) (next : ℕ) (marks : List Bool) (ns : List Null) : Type 0 where
  pub each : (p : ℕ) → is_marked marks p ≡ true → IsPart words p
  pub reached : (p : ℕ) → is_marked marks p ≡ true → IsReached words roots p
  pub begun : (p : ℕ) → Contains roots p → is_marked marks p ≡ true
  pub closed : (p w q : ℕ) → next ≤ p → is_marked marks p ≡ true → slice_get words p ≡ Some w → Contains (parts_of w) q → is_marked marks q ≡ true
  pub nulls : AreNullsOf (IsTermFrom words marks next) ns

module _ (words : List ℕ) (formed : IsWellFormed words) (roots : List ℕ) where
  -- where the roots alone are marked
  pub walk_first : (marks : List Bool) → AreMarked roots (replicate (length words) false) marks → All (IsPart words) roots → IsWalked words roots (length words) marks []
  walk_first marks m parts = record {
    each = each;
    reached = λ p h. (p, root p h, itself);
    begun = λ p h. m.put p h (subst (λ n. p < n) (sym (length-replicate (length words) false)) (part_within words formed p (All-contains (IsPart words) roots p parts h)));
    closed = λ p w q le h at among. let lt = slice_get_within words p w at in absurd (omega (arith, le, lt));
    nulls = record {
      each = All-nil (λ n. IsTermFrom words marks (length words) (term.Null n));
      all = λ n h. let lt = part_within words formed h.0 (each h.0 h.2) in absurd (omega (arith, h.1, lt));
    };
  } where
    root : (p : ℕ) → is_marked marks p ≡ true → Contains roots p
    root p h = elim (m.only p h) [ inl before ↦ absurd (false≢true (sym (none_marked (length words) p) ∙ before)) | inr among ↦ among ]

    each : (p : ℕ) → is_marked marks p ≡ true → IsPart words p
    each p h = All-contains (IsPart words) roots p parts (root p h)

  module _ (next place : ℕ) (is : place + 1 ≡ next) where
    -- a place that is not marked is passed
    pub walk_skip : (marks : List Bool) (ns : List Null) → is_marked marks place ≡ false → IsWalked words roots next marks ns → IsWalked words roots place marks ns
    walk_skip marks ns not_marked walk = record {
      each = walk.each;
      reached = walk.reached;
      begun = walk.begun;
      closed = λ p w q le h at among. walk.closed p w q (later p le h) h at among;
      nulls = record {
        each = All-weaker (λ n. IsTermFrom words marks next (term.Null n)) (λ n. IsTermFrom words marks place (term.Null n)) (λ n h. (h.0, omega (arith, h.1, is), h.2, h.3)) ns walk.nulls.each;
        all = λ n h. walk.nulls.all n (h.0, later h.0 h.1 h.2, h.2, h.3);
      };
    } where
      later : (p : ℕ) → place ≤ p → is_marked marks p ≡ true → next ≤ p
      later p le h = elim (cases_eq p place) [ inl same ↦ absurd (false≢true (sym not_marked ∙ sym (ap (is_marked marks) same) ∙ h)) | inr other ↦ omega (arith, le, other, is) ]

    -- the parts of one that is are marked, and its null is listed
    module _ (w : ℕ) (there : slice_get words place ≡ Some w) (old new : List Bool) (marked : is_marked old place ≡ true) (put : AreMarked (parts_of w) old new) (long : length old ≡ length words) where
      module _ (ns : List Null) (walk : IsWalked words roots next old ns) where
        each_new : (p : ℕ) → is_marked new p ≡ true → IsPart words p
        each_new p h = elim (put.only p h) [ inl before ↦ walk.each p before | inr part ↦ part_is words formed place w p there (walk.each place marked) part ]

        -- a place from the next one on was marked before
        before : (p : ℕ) → next ≤ p → is_marked new p ≡ true → is_marked old p ≡ true
        before p le h = elim (put.only p h) [
          | inl m ↦ m
          | inr part ↦ let lt = named_earlier words formed place w p there (parts_named w p part) in absurd (omega (arith, le, lt, is))
        ]

        closed_new : (p v q : ℕ) → place ≤ p → is_marked new p ≡ true → slice_get words p ≡ Some v → Contains (parts_of v) q → is_marked new q ≡ true
        closed_new p v q le h at among = elim (cases_eq p place) [
          | inl same ↦
              let word = some-injective v w (sym at ∙ ap (slice_get words) same ∙ there) in
              let part = subst (λ x. Contains (parts_of x) q) word among in
              put.put q part (subst (λ n. q < n) (sym long) (part_within words formed q (part_is words formed place w q there (walk.each place marked) part)))
          | inr other ↦ let later : next ≤ p = omega (arith, le, other, is) in put.kept q (walk.closed p v q later (before p later h) at among)
        ]

        -- a null from this place on was listed, or stands here
        split : (n : Null) → IsTermFrom words new place (term.Null n) → IsTrue (has_null ns n) ⊎ (term_at words place ≡ term.Null n)
        split n h = elim (cases_eq h.0 place) [
          | inl same ↦ inr (ap (term_at words) (sym same) ∙ ap as_term h.3)
          | inr other ↦ let later : next ≤ h.0 = omega (arith, h.1, other, is) in inl (walk.nulls.all n (h.0, later, before h.0 later h.2, h.3))
        ]

        still : All (λ n. IsTermFrom words new place (term.Null n)) ns
        still =
            All-weaker (λ n. IsTermFrom words old next (term.Null n)) (λ n. IsTermFrom words new place (term.Null n))
            (λ n h. (h.0, omega (arith, h.1, is), put.kept h.0 h.2, h.3)) ns walk.nulls.each

        on : (ms : List Null) → AreNullsOf (IsTermFrom words new place) ms → IsWalked words roots place new ms
        on ms nulls = record {
          each = each_new;
          reached = λ p h. elim (put.only p h) [
            | inl m ↦ walk.reached p m
            | inr part ↦ let r = walk.reached place marked in (r.0, r.1, below_more words r.0 place p w r.2 there (parts_named w p part))
          ];
          begun = λ p h. put.kept p (walk.begun p h);
          closed = closed_new;
          nulls = nulls;
        }

        one_more : (n : Null) → term_at words place ≡ term.Null n → AreNullsOf (IsTermFrom words new place) (ns ++ n ∷ [])
        one_more n e = record {
          each = All-push (λ m. IsTermFrom words new place (term.Null m)) ns n still (place, omega arith, put.kept place marked, stands_null words place n (walk.each place marked) e);
          all = λ m h. elim (split m h) [
            | inl listed ↦ list_any-append (same_null m) ns (n ∷ []) ∙ or_left (has_null ns m) (has_null (n ∷ []) m) listed
            | inr this ↦
                let both : term.Null n ≡ term.Null m = sym e ∙ this in
                let same : n ≡ m = cc in
                subst (λ k. IsTrue (has_null (ns ++ n ∷ []) k)) same (null_there ns n)
          ];
        }

        no_more : ((n : Null) → term_at words place ≡ term.Null n → ⊥) → AreNullsOf (IsTermFrom words new place) ns
        no_more none = record { each = still; all = λ n h. elim (split n h) [ inl listed ↦ listed | inr this ↦ absurd (none n this) ] }

      pub walk_turn : (v : World) → IsWalked words roots next old (nulls_in v) → IsWalked words roots place new (nulls_in (with_own (term_at words place) v))
      walk_turn v walk = by (term_at words place) refl where
        by : (t : Term) → term_at words place ≡ t → IsWalked words roots place new (nulls_in (with_own t v))
        by (term.Null n) e =
            subst (IsWalked words roots place new) (sym (map-append (λ p. p.0) v ((n, val.Other (length v + 1)) ∷ []))) (on (nulls_in v) walk (nulls_in v ++ n ∷ []) (one_more (nulls_in v) walk n e))
        by (term.Column k) e = on (nulls_in v) walk (nulls_in v) (no_more (nulls_in v) walk (λ n this. let bad : term.Column k ≡ term.Null n = sym e ∙ this in cc))
        by (term.Value x) e = on (nulls_in v) walk (nulls_in v) (no_more (nulls_in v) walk (λ n this. let bad : term.Value x ≡ term.Null n = sym e ∙ this in cc))

  -- at the end the nulls are those below the roots
  pub walk_last : (next : ℕ) (marks : List Bool) (ns : List Null) → next ≡ 0 → IsWalked words roots next marks ns → AreNullsOf (BelowSome words roots) ns
  walk_last next marks ns end walk = record {
    each = All-weaker (λ n. IsTermFrom words marks next (term.Null n)) (λ n. BelowSome words roots (term.Null n))
        (λ n h. let r = walk.reached h.0 h.2 in record { place = r.0; among = r.1; below = (h.0, r.2, h.3) }) ns walk.nulls.each;
    all = λ n b.
        let at = reach words formed (λ p. is_marked marks p ≡ true) walk.each (λ p w q h. walk.closed p w q (omega (arith, end)) h) b.place b.below.0 (term.Null n) (walk.begun b.place b.among) b.below.1 b.below.2 in
        walk.nulls.all n (at.0, omega (arith, end), at.1, at.2);
  }
