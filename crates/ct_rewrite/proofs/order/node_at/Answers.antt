use Rattle.std.proofs.Common.{refl}
use Rattle.ct_rewrite.proofs.Nodes.{node_read}
use Rattle.ct_rewrite.proofs.order.node_at.Goals as goal

pub returns : goal.returns
returns c = (node_read _ c.args.nodes.now _ c.args.position _ c.requires refl refl c.if-position-nodes.false c.index-nodes-position.is).below
