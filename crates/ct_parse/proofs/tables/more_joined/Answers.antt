use Rattle.std.proofs.Common.{sym, subst}
use Rattle.ct_parse.{specs.Ends.Fails, proofs.TermSteps.passed, proofs.Listed.{one_more, at_end, no_list}, proofs.TableSteps.{joined_list, stands_joined}}
use Rattle.ct_parse.proofs.tables.more_joined.Goals as goal

pub returns-in_err-next-clause-none : goal.returns-in_err-next-clause-none
returns-in_err-next-clause-none c =
    passed _ c.from_residual.ensures.1 (λ memory. no_list joined_list c.loop-alloc.invariant (λ e. subst Fails (sym c.loop-alloc-test.ensures) e.0) (c.in_err-next.ensures.none memory))

pub loop-alloc-preserved : goal.loop-alloc-preserved
loop-alloc-preserved c = one_more joined_list c.loop-alloc.invariant c.in_ok-next.ensures.ok c.in_ok-push.ensures.items

pub returns-clause-ok : goal.returns-clause-ok
returns-clause-ok c =
    rw c.from_vec.ensures (at_end joined_list c.loop-alloc.invariant (λ x m j. stands_joined j (subst Fails c.loop-alloc-test.ensures tt)))
