use Rattle.std.proofs.Common.{◌≡◌, true, map, take}
use Rattle.ct_word.{specs.Reading.term_at, specs.Value.{World, tuple_at}}
use Rattle.ct_certain.specs.Constants.{are_constants}
use Rattle.ct_certain.proofs.sure.constants.Given as goal

abbrev pub invariant-loop-cell : goal.invariant-loop-cell
invariant-loop-cell l = ((v : World) → l.tuple.items ≡ tuple_at v (map (term_at l.words) (take l.cell-index l.cells))) × (are_constants l.words (take l.cell-index l.cells) ≡ true)
