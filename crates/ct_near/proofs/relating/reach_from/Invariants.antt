use Rattle.ct_near.specs.Related.{Reaches, SharesWith}
use Rattle.ct_near.proofs.relating.reach_from.Given as goal

abbrev pub invariant-loop-number : goal.invariant-loop-number
invariant-loop-number l = Reaches (SharesWith l.index.entries.items l.conjunct) l.initial.reached l.reached
