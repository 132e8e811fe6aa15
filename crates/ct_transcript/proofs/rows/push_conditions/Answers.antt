use Rattle.std.proofs.{Common.arith, lemmas.Grind.common_steps}
use Rattle.ct_transcript.proofs.rows.push_conditions.Goals as goal

pub loop-row-preserved : goal.loop-row-preserved
loop-row-preserved c = grind (arith, common_steps)
