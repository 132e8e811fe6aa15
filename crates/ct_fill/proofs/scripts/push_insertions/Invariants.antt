use Rattle.std.proofs.Common.{◌≡◌, ◌++◌}
use Rattle.ct_fill.specs.Script.{insertions}
use Rattle.ct_fill.proofs.scripts.push_insertions.Given as goal

abbrev pub invariant-loop-before : goal.invariant-loop-before
invariant-loop-before l = l.list.items ≡ l.initial.list.items ++ insertions l.session l.before
