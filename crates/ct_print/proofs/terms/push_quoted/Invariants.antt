use Rattle.std.{proofs.Common.{◌≡◌, ◌++◌}, specs.Prelude.{flat_map, string_bytes}}
use Rattle.ct_print.specs.TermText.{quoted_byte}
use Rattle.ct_print.proofs.terms.push_quoted.Given as goal

abbrev pub invariant-loop-c : goal.invariant-loop-c
invariant-loop-c l =
    string_bytes l.out ++ flat_map quoted_byte l.c-iterator.rest.now
    ≡ string_bytes l.initial.out ++ flat_map quoted_byte l.text
