use Rattle.std.{proofs.Common.{◌<◌, ◌^◌, ◌+◌, take, false}, specs.Prelude.{IsTrue, sum_by}}
use Rattle.ct_word.{specs.Reading.IsSetList, specs.Stands.StandsAt, specs.WellFormed.is_place_of}
use Rattle.ct_condition.specs.Writes.{PassWrites}
use Rattle.ct_history.specs.Encodes.{set_words}
use Rattle.ct_word.specs.declared.kinds.Class.TheVariants as class
use Rattle.ct_history.proofs.encoding.sets.Given as goal

abbrev pub invariant-loop-set : goal.invariant-loop-set
invariant-loop-set g l = record {
  stands : StandsAt l.pass.words l.place (IsSetList (take l.set-index l.sets));
  class : IsTrue (is_place_of l.pass.words class.SetList l.place);
  small : l.place < 2 ^ 28;
  writes : PassWrites g.N.Site.log.cap l.fn.pass l.pass (sum_by set_words (take l.set-index l.sets) + 1) false;
}
