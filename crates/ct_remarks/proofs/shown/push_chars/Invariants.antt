use Rattle.std.{proofs.Common.{◌≡◌, ◌++◌}, specs.Prelude.{string_bytes}}
use Rattle.ct_remarks.specs.Remarks.{shown}
use Rattle.ct_remarks.proofs.shown.push_chars.Given as goal

abbrev pub invariant-loop-c : goal.invariant-loop-c
invariant-loop-c l =
    string_bytes l.out ++ shown l.c-iterator.rest.now
    ≡ string_bytes l.initial.out ++ shown l.text
