use Rattle.std.{proofs.Common.{◌≡◌, ◌+◌, ◌*◌, ◌^◌, ◌++◌, length}, specs.Prelude.{slice_get, string_bytes}}
use Rattle.ct_transcript.{specs.NodeText.with_names, specs.Owed.{own_text, owed, turns}}
use Rattle.ct_transcript.proofs.writing.push_text_at.Given as goal

abbrev pub invariant-loop-last : goal.invariant-loop-last
invariant-loop-last l =
    string_bytes l.out ++ owed l.nodes (with_names l.nodes l.names) l.runs.items ≡ string_bytes l.fn.out ++ own_text (slice_get (with_names l.nodes l.names) l.k)

abbrev pub decreases-loop-last : goal.decreases-loop-last
decreases-loop-last l = turns l.nodes l.runs.items + 2 ^ 64 * length (owed l.nodes (with_names l.nodes l.names) l.runs.items)
