use Rattle.std.specs.Prelude.{IsTrue}
use Rattle.ct_word.specs.declared.kinds.Class.TheVariants as class
use Rattle.ct_word.specs.WellFormed.{is_place_of}
use Rattle.ct_workers.proofs.asking.place_held.Given as goal

abbrev pub invariant-loop-left : goal.invariant-loop-left
invariant-loop-left l = IsTrue (is_place_of l.words class.Cond l.place)

abbrev pub decreases-loop-left : goal.decreases-loop-left
decreases-loop-left l = l.place
