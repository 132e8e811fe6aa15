use Rattle.std.{proofs.Common.{◌≡◌, ◌++◌, take}, specs.Prelude.{codes, string_bytes}, specs.List.join_by}
use Rattle.ct_transcript.specs.Text.{set_text}
use Rattle.ct_transcript.proofs.history.push_sets.Given as goal

abbrev pub invariant-loop-i : goal.invariant-loop-i
invariant-loop-i l = string_bytes l.out ≡ string_bytes l.initial.out ++ join_by set_text (codes ", ") (take l.i l.sets)
