use Rattle.std.proofs.Common.{◌≡◌, IfOk, IfErr, ◌≢◌, Ok, Err, sym, ap, ◌∙◌, subst}
use Rattle.ct_query.specs.Pred.{condition_of}
use Rattle.ct_resolve.{specs.Conditions.{factor_at, conjunction_at, any_found}, proofs.Founds.{passed, next_found_as}, proofs.Trees.{condition_is, not_refused, nested_same}}
use Rattle.ct_resolve.specs.declared.error.ResolveError.TheVariants as fault
use Rattle.ct_resolve.proofs.conditions.+condition.Goals as goal

pub condition-returns-in_err-found-clause-err : goal.condition-returns-in_err-found-clause-err
condition-returns-in_err-found-clause-err t c =
    passed _ c.from_residual.ensures.1 (λ memory. condition_is c.args.scope.now c.args.written.now ∙ ap any_found (c.in_err-found.ensures.err memory))

pub condition-returns-clause-ok : goal.condition-returns-clause-ok
condition-returns-clause-ok t c =
    condition_is c.args.scope.now c.args.written.now ∙ ap any_found c.in_ok-found.ensures.ok ∙ ap Ok (sym c.any_of.ensures)

pub factor-returns-in_err-inner-in-Not-clause-err : goal.factor-returns-in_err-inner-in-Not-clause-err
factor-returns-in_err-inner-in-Not-clause-err t c =
    passed _ c.from_residual.ensures.1 (λ memory. not_refused _ c.in-Not.is c.get.ensures (c.in_err-inner-in-Not.ensures.err memory))

pub factor-returns-in-Nested-clause-ok : goal.factor-returns-in-Nested-clause-ok
factor-returns-in-Nested-clause-ok t c =
    subst (λ x. IfOk c.condition.result (λ p. x ≡ Ok (condition_of p))) (nested_same _ c.in-Nested.is c.get-in-Nested.ensures) c.condition.ensures.ok

pub factor-returns-in-Nested-clause-err : goal.factor-returns-in-Nested-clause-err
factor-returns-in-Nested-clause-err t c =
    subst (λ x. IfErr c.condition.result (λ e. e ≢ fault.Memory → x ≡ Err e)) (nested_same _ c.in-Nested.is c.get-in-Nested.ensures) c.condition.ensures.err

pub conjunction-loop-next-preserved : goal.conjunction-loop-next-preserved
conjunction-loop-next-preserved t c =
    next_found_as (factor_at c.args.scope.now) condition_of _ c.loop-next.next-index c.loop-next.found.items c.loop-next-test.true c.next-item.is c.in_ok-pred.ensures.ok c.in_ok-push-2.ensures.items c.loop-next.invariant

pub conjunctions-loop-next-preserved : goal.conjunctions-loop-next-preserved
conjunctions-loop-next-preserved t c =
    next_found_as (conjunction_at c.args.scope.now) condition_of _ c.loop-next.next-index c.loop-next.found.items c.loop-next-test.true c.next-item.is c.in_ok-pred.ensures.ok c.in_ok-push-2.ensures.items c.loop-next.invariant
