use Rattle.std.proofs.Common.{length}
use Rattle.ct_word.proofs.Prefixes.{prefix_of_prefix}
use Rattle.ct_deciding_tests.proofs.Updated.{rows_stay}
use Rattle.ct_deciding_tests.proofs.tests.updating.second_changed.Goals as goal

pub changed-requires : goal.changed-requires
changed-requires g c =
    rows_stay c.pairs.new.pass.words c.equal.new.pass.words (prefix_of_prefix _ _ _ c.in_ok-b.ensures c.in_ok-cond.ensures) c.words.ensures.formed
    (length c.in_ok-table.table.columns) c.in_ok-table.table.rows c.in_ok-table.ensures
