use Rattle.std.{proofs.Common.{◌≡◌, map, take}, specs.Prelude.string_bytes}
use Rattle.ct_csv.proofs.writing.first_fields.Given as goal

abbrev pub invariant-loop-name : goal.invariant-loop-name
invariant-loop-name l = map string_bytes l.fields.items ≡ take l.name-index l.columns
