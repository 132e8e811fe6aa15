use Rattle.std.proofs.Common.{arith}
use Rattle.ct_history.proofs.Rows.{row_added}
use Rattle.ct_word.proofs.Prefixes.{place_in_prefix}
use Rattle.ct_condition.proofs.Writes.{writes_both}
use Rattle.ct_history.proofs.Frames.{refused}
use Rattle.ct_history.proofs.insertion.put_row.Goals as goal

pub returns-clause-rows : goal.returns-clause-rows
returns-clause-rows g c = record {
  stands = row_added c.args.pass.now.words c.put.new.pass.words c.put-2.new.pass.words c.args.list c.args.cells c.args.cond c.in_ok-row.row c.in_ok-place.place c.in_ok-row.ensures.longer c.in_ok-place.ensures.longer
      c.requires.list c.requires.cells c.requires.cond c.in_ok-row.ensures.stands c.in_ok-row.ensures.place c.in_ok-place.ensures.stands;
  class = c.in_ok-place.ensures.place;
  small = c.in_ok-place.ensures.small;
}

pub put-requires-2-clause-formed : goal.put-requires-2-clause-formed
put-requires-2-clause-formed g c = grind (arith, place_in_prefix)

pub returns-in_err-row-clause-writes : goal.returns-in_err-row-clause-writes
returns-in_err-row-clause-writes g c = refused _ c.from_residual.result c.from_residual.ensures.1 (omega arith) c.in_err-row.ensures.writes

pub returns-in_err-place-clause-writes : goal.returns-in_err-place-clause-writes
returns-in_err-place-clause-writes g c = refused _ c.from_residual-in_err-place.result c.from_residual-in_err-place.ensures.1 (omega arith) (writes_both c.in_ok-row.ensures.writes c.in_err-place.ensures.writes)

pub returns-clause-writes : goal.returns-clause-writes
returns-clause-writes g c = writes_both c.in_ok-row.ensures.writes c.in_ok-place.ensures.writes
