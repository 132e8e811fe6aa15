use Rattle.std.specs.Prelude.{IsTrue, All}
use Rattle.ct_word.specs.declared.kinds.Class.TheVariants as class
use Rattle.ct_word.specs.WellFormed.{is_place_of}
use Rattle.ct_update.specs.Needing.{IsNeeded, NeedsPart}
use Rattle.ct_update.proofs.needing.pairs_needed.Given as goal

abbrev pub invariant-loop-left : goal.invariant-loop-left
invariant-loop-left l = record {
  placed : IsTrue (is_place_of l.words class.Cond l.part);
  part : NeedsPart l.words l.cond l.part;
  needed : All (IsNeeded l.words l.cond) l.pairs.items;
}

abbrev pub decreases-loop-left : goal.decreases-loop-left
decreases-loop-left l = l.part
