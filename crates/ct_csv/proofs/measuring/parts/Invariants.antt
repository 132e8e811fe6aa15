use Rattle.std.proofs.Common.{◌≡◌, List, map, take}
use Rattle.ct_word.specs.Condition.{Condition}
use Rattle.ct_rewrite.specs.Nodes.{nth}
use Rattle.ct_csv.{specs.Measured.size_of, proofs.Widths.AreMeasured}
use Rattle.ct_csv.proofs.measuring.parts.Given as goal

abbrev pub invariant-loop-i : goal.invariant-loop-i
invariant-loop-i l = (cs : List Condition) → l.sizes ≡ map size_of cs → AreMeasured l.between (nth cs) (take l.i l.positions) l.bytes l.nest
