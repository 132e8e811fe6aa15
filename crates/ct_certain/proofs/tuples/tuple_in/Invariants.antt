use Rattle.std.proofs.Common.{◌≡◌, map, take}
use Rattle.ct_word.{specs.Reading.term_at, specs.Value.tuple_at}
use Rattle.ct_certain.proofs.tuples.tuple_in.Given as goal

abbrev pub invariant-loop-cell : goal.invariant-loop-cell
invariant-loop-cell l = l.tuple.items ≡ tuple_at l.world (map (term_at l.words) (take l.cell-index l.cells))
