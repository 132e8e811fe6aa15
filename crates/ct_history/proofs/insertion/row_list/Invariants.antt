use Rattle.std.{proofs.Common.{◌+◌, take, map, false}, specs.Prelude.sum_by}
use Rattle.ct_word.specs.Reading.{plain_crow}
use Rattle.ct_condition.specs.Writes.{PassWrites}
use Rattle.ct_history.{specs.Encodes.row_words, specs.Rows.{AreRowsAt, IsNoRow}}
use Rattle.ct_history.proofs.insertion.row_list.Given as goal

abbrev pub invariant-loop-row : goal.invariant-loop-row
invariant-loop-row g l = record {
  rows : AreRowsAt l.pass.words l.place (map (plain_crow l.fn.pass.words) (take l.row-index l.rows));
  start : IsNoRow l.pass.words l.start;
  writes : PassWrites g.N.Site.log.cap l.fn.pass l.pass (sum_by row_words (take l.row-index l.rows) + 2) false;
}
