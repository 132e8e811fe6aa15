use Rattle.std.proofs.Common.{refl}
use Rattle.ct_rewrite.{specs.Below.has, specs.Moving.IsKept, proofs.Finding.there_have, proofs.Moving.{nodes_downward, roots_kept}}
use Rattle.ct_rewrite.proofs.kept.kept.Goals as goal

pub below-requires-clause-downward : goal.below-requires-clause-downward
below-requires-clause-downward c = nodes_downward c.args.nodes.now _ c.requires.ordered refl

pub returns-clause-kept : goal.returns-clause-kept
returns-clause-kept c =
    roots_kept c.args.nodes.now c.placed.new.builder c.in_ok-positions.positions c.in_ok-nodes.nodes c.args.roots.now c.in_ok-roots.roots
    (there_have (IsKept c.args.nodes.now c.placed.new.builder) c.in_ok-positions.positions (has c.in_ok-reached.reached.items) (rw c.as_slice.ensures.value at c.in_ok-positions.ensures) c.args.roots.now c.in_ok-reached.ensures.roots)
    c.in_ok-nodes.ensures.nodes c.in_ok-roots.ensures
