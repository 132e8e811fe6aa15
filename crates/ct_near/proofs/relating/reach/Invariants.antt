use Rattle.ct_near.specs.Related.{HasEntry, Reaches}
use Rattle.ct_near.proofs.relating.reach.Given as goal

abbrev pub invariant-loop : goal.invariant-loop
invariant-loop l = Reaches (HasEntry l.index.entries.items l.place) l.fn.reached l.reached
