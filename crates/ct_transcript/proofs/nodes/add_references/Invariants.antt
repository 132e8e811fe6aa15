use Rattle.std.{proofs.Common.{◌≡◌, ℕ, ◌+◌, ◌<◌, length, take, get_or}, specs.Prelude.min}
use Rattle.ct_transcript.specs.NodeText.{references_to}
use Rattle.ct_transcript.proofs.nodes.add_references.Given as goal

abbrev pub invariant-loop-k : goal.invariant-loop-k
invariant-loop-k l =
    (k : ℕ) → k < length l.initial.counts → min (get_or l.counts k 0) 2 ≡ min (get_or l.initial.counts k 0 + references_to (take l.k-index l.positions) k) 2
