use Rattle.std.proofs.Common.{subst}
use Rattle.ct_parse.{proofs.TermSteps.passed, proofs.Listed.{one_more, at_end, no_list, behind_reads, behind_never, both_read, no_first, no_second}}
use Rattle.ct_parse.proofs.ConditionSteps.{negation, nesting, ends_at_close, factors, no_and, conjunctions, no_or, conjunction_pair, condition_pair}
use Rattle.ct_parse.{specs.Grammar.{IsFactor, IsConjunction, IsCondition}, specs.Ends.{EndsConjunction, EndsCondition}}
use Rattle.ct_parse.proofs.Combined.{CLOSE, led_read, led_never, then_read, no_then, not_then}
use Rattle.ct_parse.proofs.conditions.+condition.Goals as goal

pub condition-returns-in_err-first-clause-none : goal.condition-returns-in_err-first-clause-none
condition-returns-in_err-first-clause-none t c = passed _ c.from_residual.ensures.1 (λ memory. no_first condition_pair (c.in_err-first.ensures.none memory))

pub condition-returns-in-Ok-clause-ok : goal.condition-returns-in-Ok-clause-ok
condition-returns-in-Ok-clause-ok t c = both_read condition_pair c.in_ok-first.ensures.ok c.in-Ok.ensures.ok

pub condition-returns-in-Err-clause-none : goal.condition-returns-in-Err-clause-none
condition-returns-in-Err-clause-none t c = λ memory. no_second condition_pair c.in_ok-first.ensures.ok (c.in-Err.ensures.none memory)

pub conjunction-returns-in_err-first-clause-none : goal.conjunction-returns-in_err-first-clause-none
conjunction-returns-in_err-first-clause-none t c = passed _ c.from_residual.ensures.1 (λ memory. no_first conjunction_pair (c.in_err-first.ensures.none memory))

pub conjunction-returns-in-Ok-clause-ok : goal.conjunction-returns-in-Ok-clause-ok
conjunction-returns-in-Ok-clause-ok t c = both_read conjunction_pair c.in_ok-first.ensures.ok c.in-Ok.ensures.ok

pub conjunction-returns-in-Err-clause-none : goal.conjunction-returns-in-Err-clause-none
conjunction-returns-in-Err-clause-none t c = λ memory. no_second conjunction_pair c.in_ok-first.ensures.ok (c.in-Err.ensures.none memory)

pub factor-returns-in_err-inner-clause-none : goal.factor-returns-in_err-inner-clause-none
factor-returns-in_err-inner-clause-none t c = passed _ c.from_residual.ensures.1 (λ memory. led_never negation c.in-Some.ensures.some (c.in_err-inner.ensures.none memory))

pub factor-returns-in-Some-clause-ok : goal.factor-returns-in-Some-clause-ok
factor-returns-in-Some-clause-ok t c =
    rw c.in_ok-new.ensures (led_read negation c.in-Some.ensures.some c.in_ok-inner.ensures.ok)

pub factor-returns-in_err-inner-2-clause-none : goal.factor-returns-in_err-inner-2-clause-none
factor-returns-in_err-inner-2-clause-none t c =
    passed _ c.from_residual-in_err-inner-2.ensures.1 (λ memory. led_never nesting c.in-Some-behind_symbol.ensures.some (no_then IsCondition CLOSE ends_at_close (c.in_err-inner-2.ensures.none memory)))

pub factor-returns-in_err-nested-clause-none : goal.factor-returns-in_err-nested-clause-none
factor-returns-in_err-nested-clause-none t c =
    passed _ c.from_residual-in_err-nested.ensures.1 (λ memory. led_never nesting c.in-Some-behind_symbol.ensures.some (not_then {X = IsCondition} CLOSE ends_at_close c.in_ok-inner-2.ensures.ok (c.in_err-nested.ensures.none memory)))

pub factor-returns-in-Some-behind_symbol-clause-ok : goal.factor-returns-in-Some-behind_symbol-clause-ok
factor-returns-in-Some-behind_symbol-clause-ok t c =
    rw c.in_ok-nested.ensures.ok (led_read nesting c.in-Some-behind_symbol.ensures.some (then_read CLOSE ends_at_close c.in_ok-inner-2.ensures.ok c.in_ok-nested.ensures.behind))

pub factors-returns-in_err-next-clause-none : goal.factors-returns-in_err-next-clause-none
factors-returns-in_err-next-clause-none t c =
    passed _ c.from_residual.ensures.1 (λ memory.
    no_list factors c.loop-tail.invariant (λ e. (subst EndsConjunction c.in-Some.ensures.some e).0) (behind_never IsFactor c.in-Some.ensures.some (c.in_err-next.ensures.none memory)))

pub factors-loop-tail-preserved : goal.factors-loop-tail-preserved
factors-loop-tail-preserved t c = one_more factors c.loop-tail.invariant (behind_reads c.in-Some.ensures.some c.in_ok-next.ensures.ok) c.in_ok-push.ensures.items

pub factors-returns-clause-ok : goal.factors-returns-clause-ok
factors-returns-clause-ok t c =
    rw c.from_vec.ensures (at_end factors c.loop-tail.invariant (no_and c.in_default.ensures.none))

pub conjunctions-returns-in_err-next-clause-none : goal.conjunctions-returns-in_err-next-clause-none
conjunctions-returns-in_err-next-clause-none t c =
    passed _ c.from_residual.ensures.1 (λ memory.
    no_list conjunctions c.loop-tail.invariant (λ e. (subst EndsCondition c.in-Some.ensures.some e).0) (behind_never IsConjunction c.in-Some.ensures.some (c.in_err-next.ensures.none memory)))

pub conjunctions-loop-tail-preserved : goal.conjunctions-loop-tail-preserved
conjunctions-loop-tail-preserved t c = one_more conjunctions c.loop-tail.invariant (behind_reads c.in-Some.ensures.some c.in_ok-next.ensures.ok) c.in_ok-push.ensures.items

pub conjunctions-returns-clause-ok : goal.conjunctions-returns-clause-ok
conjunctions-returns-clause-ok t c =
    rw c.from_vec.ensures (at_end conjunctions c.loop-tail.invariant (no_or c.in_default.ensures.none))
