use Rattle.std.{proofs.Common.arith, specs.Prelude.codes}
use Rattle.ct_print.proofs.Joins.{join_written}
use Rattle.ct_transcript.specs.Text.{set_text}
use Rattle.ct_transcript.proofs.history.push_sets.Goals as goal

pub loop-i-preserved : goal.loop-i-preserved
loop-i-preserved c =
    join_written set_text (codes ", ") c.args.sets.now c.loop-i.i c.index-sets-i.result _ _ _ _ _
    (omega arith) c.index-sets-i.is c.loop-i.invariant c.in_ok-push_separator.ensures c.in_ok-push_set.ensures
