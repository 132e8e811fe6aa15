use Rattle.std.proofs.Common.{subst}
use Rattle.ct_parse.{specs.Ends.EndsItems, proofs.TermSteps.passed, proofs.Combined.{part_list, no_comma_part}}
use Rattle.ct_parse.proofs.Listed.{one_more, at_end, no_list, behind_reads, behind_never}
use Rattle.ct_parse.proofs.rows.more.Goals as goal

pub returns-in_err-next-clause-none : goal.returns-in_err-next-clause-none
returns-in_err-next-clause-none g c =
    passed _ c.from_residual.ensures.1 (λ memory.
    no_list (part_list g.P.Part.spelled) c.loop-tail.invariant (λ e. (subst EndsItems c.in-Some.ensures.some e).0) (behind_never g.P.Part.spelled c.in-Some.ensures.some (c.in_err-next.ensures.none memory)))

pub loop-tail-preserved : goal.loop-tail-preserved
loop-tail-preserved g c = one_more (part_list g.P.Part.spelled) c.loop-tail.invariant (behind_reads c.in-Some.ensures.some c.in_ok-next.ensures.ok) c.in_ok-push.ensures.items

pub returns-clause-ok : goal.returns-clause-ok
returns-clause-ok g c = rw c.from_vec.ensures (at_end (part_list g.P.Part.spelled) c.loop-tail.invariant (no_comma_part g.P.Part.spelled c.in_default.ensures.none))
