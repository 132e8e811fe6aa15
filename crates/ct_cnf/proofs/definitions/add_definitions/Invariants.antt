use Rattle.std.{proofs.Common.{◌≡◌, ◌++◌, take}, specs.List.flat_map}
use Rattle.ct_cnf.specs.Lists.{definition_entries}
use Rattle.ct_cnf.proofs.definitions.add_definitions.Given as goal

abbrev pub invariant-loop-p : goal.invariant-loop-p
invariant-loop-p l = l.entries.items ≡ l.fn.entries.items ++ flat_map (definition_entries l.words l.numbers) (take l.p-index l.numbers.conditions)
