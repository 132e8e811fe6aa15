use Rattle.std.{proofs.Common.{◌≡◌, take}, specs.Prelude.flat_map}
use Rattle.ct_transcript.specs.Text.{references_of}
use Rattle.ct_transcript.proofs.history.commit_references.Given as goal

abbrev pub invariant-loop-change : goal.invariant-loop-change
invariant-loop-change l =
    l.references.items ≡ flat_map references_of (take l.change-index l.changes)
