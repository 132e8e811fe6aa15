-- What is said of the rows of a tree, said of its lists.
use Rattle.std.{proofs.Common.{◌≡◌, ◌<◌, List, [], ◌∷◌, refl, ap, sym, ◌∙◌, map, length, arith}, specs.Prelude.Err}
use Rattle.ct_query.{specs.declared.schema.Heading.Heading, specs.declared.query.Pred.Pred, specs.Pred.condition_of, proofs.Trees.{and_is, or_is}}
use Rattle.ct_parse.specs.declared.tree.Factor.{Factor, Row_of-Factor, end_of-Factor, more_of-Factor, items-the_row-Factor, items_shown-the_row-Factor-2}
use Rattle.ct_parse.specs.declared.tree.Condition.{Condition', Row_of-Conjunction, end_of-Conjunction, more_of-Conjunction, items-the_row-Conjunction, out-Condition, items_shown-the_row-Conjunction-3, outs-Condition'}
use Rattle.ct_resolve.{specs.declared.error.ResolveError.ResolveError, specs.Found.{in_front, each}}
use Rattle.ct_resolve.specs.Conditions.{negated, and_of, or_of, all_found, any_found, factor_at, factors_at, conjunctions_at, conjunction_at, condition_at}
use Rattle.ct_query.specs.declared.query.Pred as pred
use Rattle.ct_parse.specs.declared.tree.Factor as factor
use Rattle.ct_parse.specs.declared.tree.Condition as tree

-- a run of two or more is one node
pub and_long : (cs : List Pred) → 1 < length cs → condition_of (pred.And cs) ≡ and_of (map condition_of cs)
and_long [] l = absurd (omega (arith, l))
and_long (c ∷ []) l = absurd (omega (arith, l))
and_long (c ∷ d ∷ cs) l = and_is (c ∷ d ∷ cs)

pub or_long : (cs : List Pred) → 1 < length cs → condition_of (pred.Or cs) ≡ or_of (map condition_of cs)
or_long [] l = absurd (omega (arith, l))
or_long (c ∷ []) l = absurd (omega (arith, l))
or_long (c ∷ d ∷ cs) l = or_is (c ∷ d ∷ cs)

-- what a NOT and parentheses hold
pub not_is : (scope : List Heading) (f : Factor) → factor_at scope (factor.Not f) ≡ negated (factor_at scope f)
unfolding Rattle.ct_parse.specs.declared.tree.Factor.TheBlock.hidden-the_row-Factor-0 denote.Hole.Carrier.hidden
not_is scope f = refl

pub nested_is : (scope : List Heading) (c : tree.Condition) → factor_at scope (factor.Nested c) ≡ condition_at scope c
unfolding Rattle.ct_parse.specs.declared.tree.Factor.TheBlock.hidden-the_row-Condition-1 denote.Hole.Carrier.hidden
nested_is scope c = refl

pub not_refused : (scope : List Heading) {w f g : Factor} {e : ResolveError} → w ≡ factor.Not f → g ≡ f → factor_at scope g ≡ Err e → factor_at scope w ≡ Err e
not_refused scope {f = f} p q h = ap (factor_at scope) p ∙ not_is scope f ∙ ap negated (ap (factor_at scope) (sym q) ∙ h)

pub nested_same : (scope : List Heading) {w : Factor} {c d : tree.Condition} → w ≡ factor.Nested c → d ≡ c → condition_at scope d ≡ factor_at scope w
nested_same scope {c = c} p q = sym (ap (factor_at scope) p ∙ nested_is scope c ∙ ap (condition_at scope) (sym q))

factors_row : {n : _} (scope : List Heading) (row : Row_of-Factor n) → factors_at scope row ≡ each (factor_at scope) (items-the_row-Factor n row)
factors_row scope end_of-Factor = refl
factors_row scope (more_of-Factor f rest) = ap (in_front (factor_at scope f)) (factors_row scope rest)

conjunctions_row : {n : _} (scope : List Heading) (row : Row_of-Conjunction n) → conjunctions_at scope row ≡ each (conjunction_at scope) (items-the_row-Conjunction n row)
conjunctions_row scope end_of-Conjunction = refl
conjunctions_row scope (more_of-Conjunction f shape fs rest) =
    ap (λ r. in_front (all_found (in_front (factor_at scope f) r)) (conjunctions_at scope rest)) (factors_row scope fs ∙ ap (each (factor_at scope)) (sym (items_shown-the_row-Factor-2 shape fs)))
    ∙ ap (in_front _) (conjunctions_row scope rest)

pub condition_is : (scope : List Heading) (c : tree.Condition) → condition_at scope c ≡ any_found (in_front (conjunction_at scope (out-Condition c).first) (each (conjunction_at scope) (out-Condition c).rest))
condition_is scope (Condition' f shape fs shapes rest) =
    let first = factors_row scope fs ∙ ap (each (factor_at scope)) (sym (items_shown-the_row-Factor-2 shape fs)) in
    let others = conjunctions_row scope rest ∙ ap (each (conjunction_at scope)) (sym (items_shown-the_row-Conjunction-3 shapes rest)) in
    (λ i. any_found (in_front (all_found (in_front (factor_at scope f) (first i))) (others i)))
    ∙ ap (λ r. any_found (in_front (conjunction_at scope r.first) (each (conjunction_at scope) r.rest))) (sym (outs-Condition' f shape fs shapes rest))
