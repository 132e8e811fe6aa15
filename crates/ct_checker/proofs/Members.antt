-- Members of a list in two parts, and the width of one step.
use Rattle.std.proofs.Common.{◌≡◌, ℕ, zero, suc, ◌<◌, ◌≤◌, ◌||◌, List, [], ◌∷◌, ◌++◌, length, get_or, arith, ◌-◌, ◌==◌, Option, Some, None, refl, ap, sym, ◌∙◌}
use Rattle.std.{specs.Prelude.slice_get, proofs.lemmas.Option.none-some, proofs.lemmas.Bool.ne_eqb, proofs.lemmas.List.Folds.list_any-append}
use Rattle.ct_derivation.{specs.declared.literals.Lit.Lit, specs.declared.steps.Step.Step, specs.Literal.{same_lit, has}}
use Rattle.ct_derivation.specs.Accepts.{width, widest_of, ends_empty, is_empty}

pub has_append : (l : Lit) (ls ms : List Lit) → has (ls ++ ms) l ≡ (has ls l || has ms l)
unfolding has
has_append l ls ms = list_any-append (same_lit l) ls ms

pub width_at : (ss : List Step) (i : ℕ) (d : Step) → i < length ss → width (get_or ss i d) ≤ widest_of ss
width_at [] i d lt = absurd (omega arith)
width_at (s ∷ ss) zero d lt = omega arith
width_at (s ∷ ss) (suc i) d lt = omega (arith, width_at ss i d (omega arith))

empty_is : (ls : List Lit) → is_empty ls ≡ (length ls == 0)
empty_is [] = refl
empty_is (l ∷ ls) = sym (ne_eqb (length (l ∷ ls)) 0 (λ e. absurd (omega (arith, e))))

abbrev clause_in : Option Step → List Lit
clause_in None = []
clause_in (Some s) = s.clause

-- the end by the last place
pub ends_at : (ss : List Step) (s : Step) → slice_get ss (length ss - 1) ≡ Some s → ends_empty ss ≡ (length s.clause == 0)
ends_at [] s e = absurd (none-some s e)
ends_at (t ∷ []) s e = empty_is t.clause ∙ ap (λ o. length (clause_in o) == 0) e
ends_at (t ∷ u ∷ ss) s e =
    let more : suc (length (u ∷ ss) - 1) ≡ length (t ∷ u ∷ ss) - 1 = omega arith in
    ends_at (u ∷ ss) s (ap (slice_get (t ∷ u ∷ ss)) more ∙ e)
