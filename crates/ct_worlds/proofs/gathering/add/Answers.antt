use Rattle.std.{proofs.Common.arith, proofs.lemmas.Grind.common_steps}
use Rattle.ct_worlds.proofs.gathering.add.Goals as goal

pub loop-place-preserved : goal.loop-place-preserved
loop-place-preserved c = λ k. grind (arith, common_steps, c.loop-place.invariant k)
