use Rattle.std.{proofs.Common.{◌<◌, ◌+◌, ◌^◌, take, false}, specs.Prelude.{IsTrue, sum_by}}
use Rattle.ct_word.{specs.Reading.IsRow, specs.Stands.StandsAt, specs.WellFormed.is_place_of}
use Rattle.ct_query.specs.Bounds.{literal_words}
use Rattle.ct_condition.specs.Writes.{PassWrites}
use Rattle.ct_word.specs.declared.kinds.Class.TheVariants as class
use Rattle.ct_history.proofs.encoding.term_cells.Given as goal

abbrev pub invariant-loop-cell : goal.invariant-loop-cell
invariant-loop-cell g l = record {
  stands : StandsAt l.pass.words l.place (IsRow (take l.cell-index l.cells));
  class : IsTrue (is_place_of l.pass.words class.Row l.place);
  small : l.place < 2 ^ 28;
  writes : PassWrites g.N.Site.log.cap l.fn.pass l.pass (sum_by literal_words (take l.cell-index l.cells) + l.cell-index) false;
}
