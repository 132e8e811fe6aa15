use Rattle.std.{proofs.Common.{◌≡◌, ℕ, ◌<◌, length, take, get_or}, specs.Prelude.{flat_map, min}}
use Rattle.ct_rewrite.specs.Nodes.{children_of}
use Rattle.ct_transcript.specs.NodeText.{references_to}
use Rattle.ct_transcript.proofs.nodes.count_references.Given as goal

abbrev pub invariant-loop-node : goal.invariant-loop-node
invariant-loop-node l =
    (length l.counts.items ≡ length l.nodes)
    × ((k : ℕ) → k < length l.nodes → min (get_or l.counts.items k 0) 2 ≡ min (references_to (flat_map children_of (take l.node-index l.nodes)) k) 2)
