-- A position of a node list, read as a condition.
use Rattle.std.specs.Prelude.{ℕ, ◌&&◌, ◌+◌, Bool, true, false, nat_eq, List, [], ◌∷◌, ◌++◌, map, length, nat_lt, IsTrue, slice_index_or}
use Rattle.std.specs.List.{list_all}
use Rattle.std.specs.Cmp.Lexicographic.{pointwise}
use Rattle.ct_word.specs.Value.{same_term}
use Rattle.ct_word.specs.Condition.{Condition, True, False, Same, Not, And, Or, listed}
use Rattle.ct_rewrite.specs.declared.answer.Node.{Node}
use Rattle.ct_rewrite.specs.declared.answer.Node.TheVariants as node

-- the condition at a position of a list of them, False past its end
abbrev pub nth : List Condition → ℕ → Condition
nth cs k = slice_index_or cs k False

-- the condition that a node is, over those of the nodes before it
abbrev pub condition_of_node : List Condition → Node → Condition
condition_of_node before node.True = True
condition_of_node before node.False = False
condition_of_node before (node.Eq s t) = Same s t
condition_of_node before (node.Ne s t) = Not (Same s t)
condition_of_node before (node.And ks) = And (listed (map (nth before) ks))
condition_of_node before (node.Or ks) = Or (listed (map (nth before) ks))

-- the conditions of these nodes, after nodes that are those before
abbrev pub read_nodes : List Condition → List Node → List Condition
read_nodes before [] = before
read_nodes before (n ∷ ns) = read_nodes (before ++ condition_of_node before n ∷ []) ns

-- the condition that a node put behind these nodes is
abbrev pub node_value : List Node → Node → Condition
node_value nodes n = condition_of_node (read_nodes [] nodes) n

-- the condition at a position of a node list
abbrev pub node_condition : List Node → ℕ → Condition
node_condition nodes k = nth (read_nodes [] nodes) k

-- the children of a node
abbrev pub children_of : Node → List ℕ
children_of (node.And ks) = ks
children_of (node.Or ks) = ks
children_of _ = []

-- whether a node's children stand below a position
abbrev pub stands_over : ℕ → Node → Bool
stands_over k n = list_all (λ c. nat_lt c k) (children_of n)

-- whether each node's children stand before it, the first node being at this position
abbrev pub are_ordered_from : ℕ → List Node → Bool
are_ordered_from k [] = true
are_ordered_from k (n ∷ ns) = stands_over k n && are_ordered_from (k + 1) ns

-- children stand before their parents
abbrev pub IsOrdered : List Node → Type 0
IsOrdered nodes = IsTrue (are_ordered_from 0 nodes)

-- whether a position lies in a node list
abbrev pub is_position : List Node → ℕ → Bool
is_position nodes k = nat_lt k (length nodes)

-- whether two nodes are written alike
abbrev pub same_node : Node → Node → Bool
same_node node.True node.True = true
same_node node.False node.False = true
same_node (node.Eq s t) (node.Eq u w) = same_term s u && same_term t w
same_node (node.Ne s t) (node.Ne u w) = same_term s u && same_term t w
same_node (node.And ks) (node.And ls) = pointwise nat_eq ks ls
same_node (node.Or ks) (node.Or ls) = pointwise nat_eq ks ls
same_node _ _ = false
