-- What keeping nodes at new positions keeps.
use Rattle.std.specs.Prelude.{◌≡◌, ℕ, ◌<◌, List, [], map, length, Option, Some, None, slice_get}
use Rattle.ct_rewrite.specs.declared.answer.Node.{Node}
use Rattle.ct_rewrite.specs.declared.answer.Node.TheVariants as node
use Rattle.ct_rewrite.specs.Nodes.{node_condition, children_of}
use Rattle.ct_rewrite.specs.Below.{Placement, position_at}

-- the children of a node, if there is one
abbrev pub children_of_one : Option Node → List ℕ
children_of_one (Some n) = children_of n
children_of_one None = []

-- the children of the node at a position
abbrev pub children_at : List Node → ℕ → List ℕ
children_at nodes k = children_of_one (slice_get nodes k)

-- a node over the positions to which its children went
abbrev pub moved_node : Placement → Node → Node
moved_node positions (node.And ks) = node.And (map (position_at positions) ks)
moved_node positions (node.Or ks) = node.Or (map (position_at positions) ks)
moved_node positions n = n

-- a position went to one of the same condition
pub record IsKept (nodes out : List Node) (k j : ℕ) : Type 0 where
  pub within : j < length out
  pub same : node_condition out j ≡ node_condition nodes k
