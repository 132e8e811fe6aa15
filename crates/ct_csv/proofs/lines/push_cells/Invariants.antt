use Rattle.std.{proofs.Common.{◌≡◌, ◌<◌, ◌++◌, ℕ, [], take}, specs.Prelude.{codes, string_bytes, slice_index_or, IsSome}, specs.List.join_by}
use Rattle.csv.specs.Records.{fields_of}
use Rattle.ct_csv.{specs.Fields.{cell_fields, cell_of}, specs.Script.cell_text}
use Rattle.ct_csv.proofs.lines.push_cells.Given as goal

abbrev pub invariant-loop-k : goal.invariant-loop-k
invariant-loop-k l =
    (string_bytes l.out ≡ string_bytes l.initial.out ++ join_by cell_text (codes ", ") (take l.k (cell_fields (fields_of l.row))))
    × ((j : ℕ) → j < l.k → IsSome (cell_of (slice_index_or (fields_of l.row) j [])))
