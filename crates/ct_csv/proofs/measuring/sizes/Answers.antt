use Rattle.std.proofs.Common.{◌≡◌, [], length, take, refl, ap, sym, ◌∙◌, subst, arith}
use Rattle.std.specs.Prelude.{IsTrue}
use Rattle.ct_rewrite.{specs.Nodes.{read_nodes, stands_over}, proofs.Nodes.node_read}
use Rattle.ct_csv.proofs.Widths.{long_sizes, sizes_more}
use Rattle.ct_csv.proofs.measuring.sizes.Goals as goal

pub node_size-requires : goal.node_size-requires
node_size-requires c =
    let nodes = c.args.nodes.now in
    let i = c.loop-node.node-index in
    let at = node_read _ nodes _ i _ c.requires refl refl c.loop-node-test.true c.node-item.is in
    let long : length c.as_slice.result.now ≡ i = ap length (c.as_slice.ensures.value ∙ c.loop-node.invariant) ∙ long_sizes nodes i (omega (arith, c.loop-node-test.true)) in
    subst (λ n. IsTrue (stands_over n c.node-item.result)) (sym long) at.below

pub loop-node-preserved : goal.loop-node-preserved
loop-node-preserved c =
    let nodes = c.args.nodes.now in
    let i = c.loop-node.node-index in
    sizes_more nodes i c.node-item.result c.in_ok-size.size c.loop-node.sizes.items c.push.new.self.items c.loop-node-test.true c.node-item.is c.loop-node.invariant
    (c.in_ok-size.ensures (read_nodes [] (take i nodes)) (c.as_slice.ensures.value ∙ c.loop-node.invariant)) c.in_ok-push.ensures.items
