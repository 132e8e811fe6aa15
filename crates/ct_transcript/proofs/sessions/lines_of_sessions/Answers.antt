use Rattle.std.proofs.{Common.arith, lemmas.Grind.common_steps}
use Rattle.ct_transcript.proofs.sessions.lines_of_sessions.Goals as goal

pub loop-i-preserved : goal.loop-i-preserved
loop-i-preserved c = grind (arith, common_steps)
