use Rattle.std.proofs.Common.{length}
use Rattle.ct_deciding_tests.proofs.Updated.{rows_stay}
use Rattle.ct_deciding_tests.proofs.tests.updating.swapped.Goals as goal

pub changed-requires : goal.changed-requires
changed-requires g c =
    rows_stay c.pairs.new.pass.words c.columns.new.pass.words c.in_ok-a.ensures c.words.ensures.formed (length c.in_ok-table.table.columns) c.in_ok-table.table.rows c.in_ok-table.ensures
