use Rattle.std.{proofs.Common.{◌≡◌, take}, specs.Prelude.{flat_map, string_bytes}}
use Rattle.ct_fill.specs.Script.{ended}
use Rattle.ct_fill.proofs.scripts.script.Given as goal

abbrev pub invariant-loop-statement : goal.invariant-loop-statement
invariant-loop-statement l = string_bytes l.out ≡ flat_map ended (take l.statement-index l.statement-items)
