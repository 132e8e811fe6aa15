use Rattle.std.proofs.Common.{◌≡◌, take}
use Rattle.ct_cut.specs.Cut.{renumbered}
use Rattle.ct_cut.proofs.translating.renumbered.Given as goal

abbrev pub invariant-loop-h : goal.invariant-loop-h
invariant-loop-h l = l.found.items ≡ renumbered l.numbers (take l.h-index l.hints)
