-- The conditions of a node list are such that their text is read.
use Rattle.std.proofs.Common.{ℕ, zero, suc, List, [], ◌∷◌, ◌++◌, map, length, nat_le, arith}
use Rattle.std.{specs.Prelude.IsTrue, specs.List.list_all, proofs.lemmas.Bool.{and_parts, leb-true}}
use Rattle.ct_word.{specs.declared.values.Term.Term, specs.Condition.{Condition, listed}}
use Rattle.ct_rewrite.{specs.declared.answer.Node.Node, specs.Nodes.{nth, condition_of_node, read_nodes, node_condition}, specs.Rules.{is_count_of_children, are_children_within}}
use Rattle.ct_reread.specs.Printed.{IsPrinted, ArePrinted, HasPart}
use Rattle.ct_rewrite.specs.declared.answer.Node.TheVariants as node

-- any term
abbrev pub Any : Term → Type 0
Any t = Unit {0}

abbrev AreShaped : List Condition → Type 0
AreShaped [] = Unit {0}
AreShaped (c ∷ cs) = IsPrinted Any c × AreShaped cs

nth_shaped : (cs : List Condition) (k : ℕ) → AreShaped cs → IsPrinted Any (nth cs k)
nth_shaped [] zero h = tt
nth_shaped [] (suc k) h = tt
nth_shaped (c ∷ cs) zero h = h.0
nth_shaped (c ∷ cs) (suc k) h = nth_shaped cs k h.1

children_shaped : (cs : List Condition) (ks : List ℕ) → AreShaped cs → ArePrinted Any (listed (map (nth cs) ks))
children_shaped cs [] h = tt
children_shaped cs (k ∷ ks) h = (nth_shaped cs k h, children_shaped cs ks h)

has_child : (cs : List Condition) (ks : List ℕ) → IsTrue (is_count_of_children (length ks)) → HasPart (listed (map (nth cs) ks))
has_child cs [] h = absurd (let less = (and_parts (nat_le 2 0) (nat_le 0 64) h).0 in omega (arith, leb-true 2 0 less))
has_child cs (k ∷ ks) h = tt

node_shaped : (cs : List Condition) (n : Node) → IsTrue (are_children_within n) → AreShaped cs → IsPrinted Any (condition_of_node cs n)
node_shaped cs node.True e h = tt
node_shaped cs node.False e h = tt
node_shaped cs (node.Eq s t) e h = (tt, tt)
node_shaped cs (node.Ne s t) e h = (tt, tt)
node_shaped cs (node.And ks) e h = (has_child cs ks e, children_shaped cs ks h)
node_shaped cs (node.Or ks) e h = (has_child cs ks e, children_shaped cs ks h)

shaped_push : (cs : List Condition) (c : Condition) → AreShaped cs → IsPrinted Any c → AreShaped (cs ++ c ∷ [])
shaped_push [] c h p = (p, tt)
shaped_push (d ∷ cs) c h p = (h.0, shaped_push cs c h.1 p)

nodes_shaped : (cs : List Condition) (ns : List Node) → IsTrue (list_all are_children_within ns) → AreShaped cs → AreShaped (read_nodes cs ns)
nodes_shaped cs [] e h = h
nodes_shaped cs (n ∷ ns) e h =
    let parts = and_parts (are_children_within n) (list_all are_children_within ns) e in
    nodes_shaped (cs ++ condition_of_node cs n ∷ []) ns parts.1 (shaped_push cs (condition_of_node cs n) h (node_shaped cs n parts.0 h))

-- the condition at each position, where each And and Or has children
pub node_printed : (ns : List Node) (k : ℕ) → IsTrue (list_all are_children_within ns) → IsPrinted Any (node_condition ns k)
node_printed ns k e = nth_shaped (read_nodes [] ns) k (nodes_shaped [] ns e tt)
