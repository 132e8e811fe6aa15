use Rattle.std.{proofs.Common.{◌≡◌, ◌++◌, replicate}, specs.Prelude.string_bytes}
use Rattle.ct_csv.proofs.printing.push_underscores.Given as goal

abbrev pub invariant-loop : goal.invariant-loop
invariant-loop l = string_bytes l.out ≡ string_bytes l.initial.out ++ replicate l.counter 95
