use Rattle.std.{proofs.Common.{◌≡◌, take}, specs.Prelude.flat_map}
use Rattle.ct_history.specs.Printed.{conds_of}
use Rattle.ct_history.proofs.printing.conditions.Given as goal

abbrev pub invariant-loop-change : goal.invariant-loop-change
invariant-loop-change l = l.roots.items ≡ flat_map conds_of (take l.change-index l.changes)
