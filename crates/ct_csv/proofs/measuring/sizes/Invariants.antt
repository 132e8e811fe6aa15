use Rattle.std.proofs.Common.{◌≡◌, [], map, take}
use Rattle.ct_rewrite.specs.Nodes.{read_nodes}
use Rattle.ct_csv.specs.Measured.{size_of}
use Rattle.ct_csv.proofs.measuring.sizes.Given as goal

abbrev pub invariant-loop-node : goal.invariant-loop-node
invariant-loop-node l = l.sizes.items ≡ map size_of (read_nodes [] (take l.node-index l.nodes))
