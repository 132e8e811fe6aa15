use Rattle.std.proofs.Common.{take}
use Rattle.ct_near.{specs.Conjuncts.{AreChosen}, proofs.Entries.AreAskedTo}
use Rattle.ct_near.proofs.relating.chosen.Given as goal

abbrev pub invariant-loop-number : goal.invariant-loop-number
invariant-loop-number l = AreAskedTo l.places l.is_asked l.number l.chosen.items

abbrev pub invariant-loop-place : goal.invariant-loop-place
invariant-loop-place l = AreChosen l.places l.is_asked (take l.place-index l.own) l.chosen.items
