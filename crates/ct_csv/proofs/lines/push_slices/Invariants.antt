use Rattle.std.{proofs.Common.{◌≡◌, ◌++◌, take}, specs.Prelude.{codes, string_bytes}, specs.List.join_by}
use Rattle.ct_csv.specs.Script.{slice_of}
use Rattle.ct_csv.proofs.lines.push_slices.Given as goal

abbrev pub invariant-loop-i : goal.invariant-loop-i
invariant-loop-i l = string_bytes l.out ≡ string_bytes l.initial.out ++ join_by (slice_of l.text) (codes " ") (take l.i l.tokens)
