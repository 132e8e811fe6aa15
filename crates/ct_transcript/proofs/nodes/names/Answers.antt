use Rattle.std.{proofs.Common.{◌≡◌, ◌++◌, ◌∙◌, ap, arith}, specs.Prelude.{ℕ, flat_map, min}, proofs.lemmas.List.get_or_default}
use Rattle.ct_rewrite.specs.Nodes.{children_of}
use Rattle.ct_transcript.{specs.NodeText.references_to, proofs.Names.{name_written, named_bound}}
use Rattle.ct_transcript.proofs.nodes.names.Goals as goal

pub loop-i-preserved : goal.loop-i-preserved
loop-i-preserved c =
    let refs = flat_map children_of c.args.nodes.now ++ c.args.roots.now in
    let counted : min c.index.result.now 2 ≡ min (references_to refs c.loop-i.i) 2 =
    ap (λ (x : ℕ). min x 2) (c.index.ensures ∙ get_or_default c.in_ok-counts.counts.items c.loop-i.i c.index.result.now 0 (omega (arith, c.in_ok-counts.ensures.len))) ∙ c.in_ok-counts.ensures.counts c.loop-i.i (omega arith) in (
      named_bound _ _ _ _ c.loop-i.invariant.0 c.next_name.ensures.named,
      rw c.in_ok-push.ensures.items (name_written c.args.nodes.now refs c.loop-i.i c.loop-i.named c.index-nodes-i.result c.index.result.now c.needs_name-is_needed.result _ _ _ _
          (omega arith) c.index-nodes-i.is counted c.needs_name-is_needed.ensures c.next_name.ensures.name c.next_name.ensures.named c.loop-i.invariant.1),
    )
