use Rattle.std.{proofs.Common.{◌≡◌, ◌+◌, ◌≤◌, ◌++◌, drop}, specs.Prelude.flat_map}
use Rattle.ct_rewrite.specs.Nodes.{children_of}
use Rattle.ct_transcript.specs.NodeText.{names_from, names_of}
use Rattle.ct_transcript.proofs.nodes.names.Given as goal

abbrev pub invariant-loop-i : goal.invariant-loop-i
invariant-loop-i l =
    (l.named ≤ l.i)
    × (l.names.items ++ names_from l.i (l.named + 1) (flat_map children_of l.nodes ++ l.roots) (drop l.i l.nodes) ≡ names_of l.nodes l.roots)
