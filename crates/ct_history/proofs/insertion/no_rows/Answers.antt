use Rattle.std.proofs.Common.{arith}
use Rattle.ct_word.proofs.Prefixes.{place_in_prefix, place_within, stands_in_prefix}
use Rattle.ct_word.specs.declared.kinds.Class.TheVariants as class
use Rattle.ct_condition.proofs.Writes.{writes_both}
use Rattle.ct_history.proofs.Frames.{refused}
use Rattle.ct_history.proofs.insertion.no_rows.Goals as goal

pub returns-clause-rows : goal.returns-clause-rows
returns-clause-rows g c =
    let ends = c.put.new.pass.words in
    let now = c.put-2.new.pass.words in
    let list = c.in_ok-list.list in
    record {
      stands = stands_in_prefix ends now list _ c.in_ok-start.ensures.longer (place_within ends class.RowList list c.in_ok-list.ensures.place) c.in_ok-list.ensures.stands;
      class = place_in_prefix ends now class.RowList list c.in_ok-start.ensures.longer c.in_ok-list.ensures.place;
      small = c.in_ok-list.ensures.small;
    }

pub returns-clause-start : goal.returns-clause-start
returns-clause-start g c = record { stands = c.in_ok-start.ensures.stands; class = c.in_ok-start.ensures.place; small = c.in_ok-start.ensures.small }

pub returns-in_err-list-clause-writes : goal.returns-in_err-list-clause-writes
returns-in_err-list-clause-writes g c = refused _ c.from_residual.result c.from_residual.ensures.1 (omega arith) c.in_err-list.ensures.writes

pub returns-in_err-start-clause-writes : goal.returns-in_err-start-clause-writes
returns-in_err-start-clause-writes g c = refused _ c.from_residual-in_err-start.result c.from_residual-in_err-start.ensures.1 (omega arith) (writes_both c.in_ok-list.ensures.writes c.in_err-start.ensures.writes)

pub returns-clause-writes : goal.returns-clause-writes
returns-clause-writes g c = writes_both c.in_ok-list.ensures.writes c.in_ok-start.ensures.writes
