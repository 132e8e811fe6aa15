-- Conjuncts that a search left out.
use Rattle.std.proofs.Common.{◌≡◌, ◌<◌, ℕ, zero, suc, Bool, true, false, not, List, [], ◌∷◌, get_or, length, set, refl, sym, ◌∙◌, ◌⊎◌, subst, arith, inl, inr}
use Rattle.std.{specs.Prelude.{Contains, IsTrue}, specs.List.{list_all}, proofs.lemmas.Bool.{cases_eq, false≢true, or_parts}, proofs.lemmas.List.{get_or-set_other}}
use Rattle.ct_word.{specs.declared.values.Null.Null, specs.WellFormed.IsWellFormed}
use Rattle.ct_worlds.{specs.Gathering.has, specs.Nulls.{AreNulls, has_null}}
use Rattle.ct_near.specs.declared.{index.Conjuncts.Conjuncts, scope.Scope.Scope}
use Rattle.ct_near.specs.{Conjuncts.{AreChosen, AreConjuncts, IsUncovered, is_covered}, Near.{IsScope, IsScopeOf}, Related.{AreFlagged, IsReachedNull, IsRelated, IsRelatedAt, ours, theirs}}
use Rattle.ct_near.proofs.{Near.{others_none, scope_null}, Sharing.related_by}

-- how many conjuncts are not asked
pub unasked : List Bool → ℕ
unasked [] = 0
unasked (true ∷ flags) = unasked flags
unasked (false ∷ flags) = suc (unasked flags)

under : (n : ℕ) → n < suc n
under n = omega arith

more_under : (m n : ℕ) → m < n → suc m < suc n
more_under m n less = omega (arith, less)

-- fewer, once one of them is
pub fewer : (flags : List Bool) (k : ℕ) → k < length flags → get_or flags k false ≡ false → unasked (set flags k true) < unasked flags
unfolding unasked
fewer [] k lt e = absurd (omega (arith, lt))
fewer (true ∷ flags) zero lt e = absurd (false≢true (sym e))
fewer (false ∷ flags) zero lt e = under (unasked flags)
fewer (true ∷ flags) (suc k) lt e = fewer flags k (omega (arith, lt)) e
fewer (false ∷ flags) (suc k) lt e = more_under (unasked (set flags k true)) (unasked flags) (fewer flags k (omega (arith, lt)) e)

kept_null : (b : Bool) → not b ≡ false → b ≡ true
kept_null true e = refl
kept_null false e = absurd (false≢true (sym e))

module _ (words : List ℕ) (root : ℕ) (own : List ℕ) (c : Conjuncts) (formed : IsWellFormed words) (are : AreConjuncts words root c) (is_asked : List Bool)
    (flagged : AreFlagged words root own c.places.items is_asked) where
  module _ (s : Scope) (is : IsScope words s) (chosen : AreChosen c.places.items is_asked own s.conditions.items) (nulls : AreNulls words s.nulls) where
    -- what was chosen are further conditions and related conjuncts
    chosen_related : (p : ℕ) → Contains s.conditions.items p → IsRelated words root own p ⊎ Contains own p
    chosen_related p h = elim (chosen.only p h) [
      | inl a ↦ inl (subst (IsRelated words root own) a.is (flagged a.number a.asked).is)
      | inr one ↦ inr one
    ]

    chosen_reached : (n : Null) → IsTrue (has_null s.nulls.listed.keys n) → IsReachedNull words root own n
    chosen_reached n h =
        let b = scope_null words s is n h in
        elim (chosen_related b.0 b.1) [ inl r ↦ theirs b.0 r.null r.conjunct r.reached r.below b.2 | inr one ↦ ours b.0 one b.2 ]

    -- a conjunct with one of their nulls is related
    pub uncovered_related : (k : ℕ) → IsUncovered c.index.entries.items is_asked s.nulls k → IsRelatedAt words root own c.places.items k
    uncovered_related k u =
        let e = are.only u.entry u.among in
        let there = kept_null (has s.nulls.places u.entry.null) (or_parts (get_or is_asked u.entry.conjunct false) (not (has s.nulls.places u.entry.null)) u.uncovered).1 in
        related_by words root own c formed are k u.entry u.conjunct e (chosen_reached e.null (nulls.all u.entry.null e.null there e.there))

    -- where there is none, the scope is that of the further conditions
    pub scope_is : list_all (is_covered is_asked s.nulls) c.index.entries.items ≡ true → IsScopeOf words root c own s
    scope_is covered = record {
      is = is;
      ours = chosen.ours;
      only = chosen_related;
      others = others_none words own c is_asked s.conditions.items s.nulls formed are.nulls chosen nulls covered;
    }

  -- one more is asked
  pub flagged_more : (k : ℕ) → IsRelatedAt words root own c.places.items k → AreFlagged words root own c.places.items (set is_asked k true)
  flagged_more k at j h = elim (cases_eq j k) [
    | inl same ↦ subst (IsRelatedAt words root own c.places.items) (sym same) at
    | inr ne ↦ flagged j (sym (get_or-set_other is_asked k j true false ne) ∙ h)
  ]

pub uncovered_flag : (c : Conjuncts) (is_asked : List Bool) (s : Scope) (k : ℕ) → IsUncovered c.index.entries.items is_asked s.nulls k → get_or is_asked k false ≡ false
uncovered_flag c is_asked s k u =
    subst (λ j. get_or is_asked j false ≡ false) u.conjunct (or_parts (get_or is_asked u.entry.conjunct false) (not (has s.nulls.places u.entry.null)) u.uncovered).0
