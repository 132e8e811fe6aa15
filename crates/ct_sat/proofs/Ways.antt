-- Ways from one literal that is taken as false to others.
use Rattle.std.proofs.Common.{◌≡◌, ℕ, zero, suc, pos, negsuc, w32, FitsSigned, ◌<◌, ◌+◌, true, false, List, [], ◌∷◌, ◌++◌, take, length, get_or, refl, ap, ◌∙◌, sym, ℤ, neg_ℤ, append_assoc, arith, None}
use Rattle.std.{specs.Prelude.{nat_lt}, specs.List.list_all, proofs.Math.IntN.neg_ℤ-neg_ℤ, proofs.lemmas.Int.fits_signed_from_abs}
use Rattle.std.proofs.lemmas.Bool.{false≢true, and_parts, and_from, or_left, or_right, cond-true, cond-false}
use Rattle.std.proofs.lemmas.{Bool.Decides.Decides-ltb, List.Folds.{list_all-append, list_all_more}}
use Rattle.ct_trail.specs.{Literal.{Clause, numbered, has, is_literal, LARGEST}, Log.clause_at, Units.IsAloneAt}
use Rattle.ct_sat.specs.Units.{Leads, Goes}
use Rattle.ct_sat.specs.declared.units.Way.{Way}
use Rattle.ct_trail.proofs.{Literals.{same_refl, has_more}, Lessons.meets_first}
use Rattle.ct_derivation.specs.Propagation.{Falsified, Forces, look, meets, are_hints, follows}

look_alone : (ls : Clause) (l : ℤ) → has ls l ≡ false → has ls (neg_ℤ l) ≡ false → look numbered ls None (l ∷ []) ≡ Forces l
unfolding has
look_alone ls l out opposite = cond-false (has ls l) _ _ out ∙ cond-false (has ls (neg_ℤ l)) _ _ opposite

look_known : (ls c : Clause) → list_all (has ls) c ≡ true → look numbered ls None c ≡ Falsified
unfolding has
look_known ls [] all = refl
look_known ls (x ∷ c) all =
    let parts = and_parts (has ls x) _ all in
    cond-true (has ls x) _ _ parts.0 ∙ look_known ls c parts.1

pub starts : (log : List Clause) (l : ℤ) (w : Way) → w.known.items ≡ l ∷ [] → w.hints.items ≡ [] → Leads log l w
starts log l w known none = record {
  hints = ap (are_hints log) none;
  meets = λ rest. ap (λ hs. meets numbered log (l ∷ []) (hs ++ rest)) none ∙ ap (λ c. meets numbered log c rest) (sym known);
}

more_hints : (log : List Clause) (hs : List ℕ) (k : ℕ) → are_hints log hs ≡ true → k < length log → are_hints log (hs ++ k ∷ []) ≡ true
more_hints log hs k e lt = list_all-append (λ h. nat_lt h (length log)) hs (k ∷ []) ∙ and_from _ _ e (and_from _ true ((Decides-ltb k (length log)).1 lt) refl)

pub goes : (log : List Clause) (old new : Way) (m : ℤ) (k : ℕ) → new.known.items ≡ old.known.items ++ m ∷ [] → new.hints.items ≡ old.hints.items ++ k ∷ []
    → IsAloneAt log k (neg_ℤ m) → has old.known.items m ≡ false → has old.known.items (neg_ℤ m) ≡ false → Goes log old new m
goes log old new m k known hints alone out opposite =
    let ls = old.known.items in
    let back = neg_ℤ-neg_ℤ m in
    let forced = ap (look numbered ls None) alone.alone ∙ look_alone ls (neg_ℤ m) opposite (ap (has ls) back ∙ out) in
    record {
      leads = λ l a. record {
        hints = ap (are_hints log) hints ∙ more_hints log old.hints.items k a.hints alone.within;
        meets = λ rest.
            ap (λ hs. meets numbered log (l ∷ []) (hs ++ rest)) hints ∙ ap (meets numbered log (l ∷ [])) (append_assoc old.hints.items (k ∷ []) rest)
            ∙ a.meets (k ∷ rest) ∙ meets_first log ls k rest (Forces (neg_ℤ m)) alone.within forced
            ∙ ap (λ x. meets numbered log (ls ++ x ∷ []) rest) back ∙ ap (λ c. meets numbered log c rest) (sym known);
      };
      more = λ x h. ap (λ c. has c x) known ∙ has_more ls m x ∙ or_left _ _ h;
      there = ap (λ c. has c m) known ∙ has_more ls m m ∙ or_right (has ls m) _ (same_refl m);
    }

all_still : (a b c : Clause) → ((x : ℤ) → has a x ≡ true → has b x ≡ true) → list_all (has a) c ≡ true → list_all (has b) c ≡ true
all_still a b [] more e = refl
all_still a b (x ∷ c) more e = let parts = and_parts (has a x) _ e in and_from _ _ (more x parts.0) (all_still a b c more parts.1)

-- one literal more of a clause is known
pub known_more : (log : List Clause) (old new : Way) (c : Clause) (i : ℕ) (d : ℤ) → i < length c → Goes log old new (get_or c i d) → list_all (has old.known.items) (take i c) ≡ true
    → list_all (has new.known.items) (take (i + 1) c) ≡ true
known_more log old new c i d lt g e =
    list_all_more (has new.known.items) c i d lt ∙ and_from _ _ (all_still old.known.items new.known.items (take i c) g.more e) g.there

pub arrives : (log : List Clause) (l : ℤ) (w : Way) (k : ℕ) (hs : List ℕ) → Leads log l w → k < length log → list_all (has w.known.items) (clause_at log k) ≡ true → hs ≡ w.hints.items ++ k ∷ []
    → follows numbered log (l ∷ []) hs ≡ true
arrives log l w k hs a lt all is =
    ap (follows numbered log (l ∷ [])) is
    ∙ and_from _ _ (more_hints log w.hints.items k a.hints lt) (a.meets (k ∷ []) ∙ meets_first log w.known.items k [] Falsified lt (look_known w.known.items (clause_at log k) all))

below : (n : ℕ) → n < LARGEST → suc n < 2147483648
below n lt = omega (arith, lt)

pub literal_fits : (l : ℤ) → is_literal LARGEST l ≡ true → FitsSigned w32 l
literal_fits (pos zero) e = absurd (false≢true e)
literal_fits (pos (suc n)) e = fits_signed_from_abs w32 (pos (suc n)) (below n ((Decides-ltb n LARGEST).0 e))
literal_fits (negsuc n) e = fits_signed_from_abs w32 (negsuc n) (below n ((Decides-ltb n LARGEST).0 e))
