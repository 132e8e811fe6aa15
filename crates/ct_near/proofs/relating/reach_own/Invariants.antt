use Rattle.ct_near.specs.Related.{Reaches, SharesOwn}
use Rattle.ct_near.proofs.relating.reach_own.Given as goal

abbrev pub invariant-loop-place : goal.invariant-loop-place
invariant-loop-place l = Reaches (SharesOwn l.words l.own l.index.entries.items) l.initial.reached l.reached
