use Rattle.std.proofs.Common.{◌≡◌, take}
use Rattle.std.specs.Prelude.{All}
use Rattle.ct_word.specs.Value.{same_tuple}
use Rattle.ct_operators.specs.Tables.{firsts}
use Rattle.ct_certain.specs.{Missing.IsSure, Constants.sure_of}
use Rattle.ct_certain.proofs.sure.sure_tuples.Given as goal

abbrev pub invariant-loop-row : goal.invariant-loop-row
invariant-loop-row l = (l.sure.keys ≡ firsts same_tuple (sure_of l.words (take l.row-index l.rows))) × All (IsSure l.words l.rows) l.sure.keys
