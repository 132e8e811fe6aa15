use Rattle.std.{proofs.Common.{◌≡◌, length, take}, specs.Prelude.Some}
use Rattle.csv.specs.Records.{fields_of}
use Rattle.ct_csv.specs.Fields.{names_of}
use Rattle.ct_csv.proofs.fields.columns.Given as goal

abbrev pub invariant-loop-k : goal.invariant-loop-k
invariant-loop-k l = (names_of (take l.k (fields_of l.row)) ≡ Some l.names.items) × (length l.names.items ≡ l.k)
