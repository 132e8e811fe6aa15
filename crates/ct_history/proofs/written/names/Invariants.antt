use Rattle.std.proofs.Common.{◌≡◌, map, take}
use Rattle.ct_word.specs.WordAt.{text_at}
use Rattle.ct_history.proofs.written.names.Given as goal

abbrev pub invariant-loop-item : goal.invariant-loop-item
invariant-loop-item l = l.names.items ≡ map (text_at l.words) (take l.item-index l.item-items)
