use Rattle.ct_near.proofs.Steps.{zeros_more}
use Rattle.ct_near.proofs.walking.zeros.Goals as goal

pub loop-zeros-preserved : goal.loop-zeros-preserved
loop-zeros-preserved c = zeros_more 256 c.loop-zeros.zeros.items c.extend_from_slice.new.self.items c.in_ok-extend_from_slice.ensures.items c.loop-zeros.invariant
