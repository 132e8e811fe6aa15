use Rattle.std.{proofs.Common.{◌<◌, ◌^◌, ◌+◌, take, false}, specs.Prelude.{IsTrue, sum_by}}
use Rattle.ct_word.{specs.Reading.IsNameList, specs.Stands.StandsAt, specs.WellFormed.is_place_of}
use Rattle.ct_condition.specs.Writes.{PassWrites}
use Rattle.ct_history.specs.Encodes.{name_words}
use Rattle.ct_word.specs.declared.kinds.Class.TheVariants as class
use Rattle.ct_history.proofs.changes.names.Given as goal

abbrev pub invariant-loop-name : goal.invariant-loop-name
invariant-loop-name g l = record {
  stands : StandsAt l.pass.words l.place (IsNameList (take l.name-index l.names));
  class : IsTrue (is_place_of l.pass.words class.NameList l.place);
  small : l.place < 2 ^ 28;
  writes : PassWrites g.N.Site.log.cap l.fn.pass l.pass (sum_by name_words (take l.name-index l.names) + 1) false;
}
