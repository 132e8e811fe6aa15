use Rattle.std.proofs.Common.{◌≡◌, take}
use Rattle.ct_word.specs.Value.{same_tuple}
use Rattle.ct_operators.specs.Tables.{firsts, value_of_rows}
use Rattle.ct_certain.proofs.tuples.tuples.Given as goal

abbrev pub invariant-loop-row : goal.invariant-loop-row
invariant-loop-row l = l.tuples.keys ≡ firsts same_tuple (value_of_rows l.words l.world (take l.row-index l.rows))
