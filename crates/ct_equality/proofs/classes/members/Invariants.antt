use Rattle.std.proofs.Common.{◌≡◌, List, take}
use Rattle.ct_equality.{specs.declared.classes.Member.Member, specs.Indexed.{AreClassesAt, classed}}
use Rattle.ct_equality.proofs.classes.members.Given as goal

abbrev pub invariant-loop-i : goal.invariant-loop-i
invariant-loop-i l = (ms : List Member) → AreClassesAt l.places ms l.classes → l.members.items ≡ classed l.words ms (take l.i l.places)
