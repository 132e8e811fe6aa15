-- What the making of a node list keeps and adds.
use Rattle.std.specs.Prelude.{◌≡◌, ℕ, ◌<◌, Bool, true, false, List, ◌++◌, length}
use Rattle.ct_word.specs.Condition.{Condition, Not, SameTruth}
use Rattle.ct_rewrite.specs.declared.answer.Node.{Node}
use Rattle.ct_rewrite.specs.declared.answer.Node.TheVariants as node
use Rattle.ct_word.specs.declared.connectives.Connective.{Connective}
use Rattle.ct_word.specs.declared.connectives.Connective.TheVariants as connective
use Rattle.ct_rewrite.specs.Nodes.{node_condition}

-- nodes were put at the end
pub record Grows (old new : List Node) : Type 0 where
  pub added : List Node
  pub is : new ≡ old ++ added

-- a position of these nodes has the truth of a condition
pub record Says (nodes : List Node) (k : ℕ) (c : Condition) : Type 0 where
  pub within : k < length nodes
  pub truth : SameTruth (node_condition nodes k) c

-- a condition for plus, and what denies it for minus
abbrev pub signed : Bool → Condition → Condition
signed true c = c
signed false c = Not c

-- a connective over these children
abbrev pub joint_node : Connective → List ℕ → Node
joint_node connective.And ks = node.And ks
joint_node connective.Or ks = node.Or ks

-- a truth
abbrev pub literal_node : Bool → Node
literal_node true = node.True
literal_node false = node.False
