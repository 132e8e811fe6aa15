use Rattle.std.proofs.Common.{◌≡◌, drop}
use Rattle.ct_cut.specs.Marks.{with_marks}
use Rattle.ct_cut.proofs.needed.mark_hints.Given as goal

abbrev pub invariant-loop-h : goal.invariant-loop-h
invariant-loop-h l = with_marks l.marks.items (drop l.h-index l.hints) ≡ with_marks l.fn.marks.items l.hints
