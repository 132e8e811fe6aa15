use Rattle.std.{proofs.Common.{◌+◌, take, map, false}, specs.Prelude.sum_by}
use Rattle.ct_word.specs.Reading.{condition_at}
use Rattle.ct_condition.specs.Writes.{PassWrites}
use Rattle.ct_history.{specs.Encodes.term_row_words, specs.Rows.{AreRowsAt, IsNoRow, row_under}}
use Rattle.ct_history.proofs.encoding.term_rows.Given as goal

abbrev pub invariant-loop-row : goal.invariant-loop-row
invariant-loop-row g l = record {
  rows : AreRowsAt l.pass.words l.place (map (row_under (condition_at l.fn.pass.words l.cond)) (take l.row-index l.rows));
  start : IsNoRow l.pass.words l.start;
  writes : PassWrites g.N.Site.log.cap l.fn.pass l.pass (sum_by term_row_words (take l.row-index l.rows) + 2) false;
}
