use Rattle.std.proofs.{Common.arith, lemmas.Grind.common_steps}
use Rattle.ct_transcript.proofs.history.commit_references.Goals as goal

pub loop-change-preserved : goal.loop-change-preserved
loop-change-preserved c = grind (arith, common_steps)
