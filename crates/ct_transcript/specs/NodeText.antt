-- The nodes of a node list as they are printed: those that are named, and the others in their place.
use Rattle.std.specs.Prelude.{ℕ, ◌+◌, Bool, true, false, ◌&&◌, List, [], ◌∷◌, ◌++◌, flat_map, Option, Some, None, nat_eq, nat_le, slice_get, if◌then◌else◌, codes, decimal, count_by}
use Rattle.std.specs.List.{join_by}
use Rattle.ct_rewrite.specs.declared.answer.Node.{Node}
use Rattle.ct_rewrite.specs.declared.answer.Node.TheVariants as node
use Rattle.ct_rewrite.specs.Nodes.{children_of}
use Rattle.ct_print.specs.TermText.{in_parentheses, term_text}

-- a text and its line end
abbrev pub line : List ℕ → List ℕ
line t = t ++ 10 ∷ []

-- whether a node is an And or an Or
abbrev pub is_run : Node → Bool
is_run (node.And ks) = true
is_run (node.Or ks) = true
is_run _ = false

-- how many of the references lead to a position
abbrev pub references_to : List ℕ → ℕ → ℕ
references_to refs k = count_by (nat_eq k) refs

-- the numbers that name nodes, from a position and a next number on: those of an And or Or that two references lead to
abbrev pub names_from : ℕ → ℕ → List ℕ → List Node → List (Option ℕ)
names_from k next refs [] = []
names_from k next refs (n ∷ ns) =
    if is_run n && nat_le 2 (references_to refs k) then Some next ∷ names_from (k + 1) (next + 1) refs ns
    else None ∷ names_from (k + 1) next refs ns

-- the names of a node list's nodes; roots are the references from outside the list
abbrev pub names_of : List Node → List ℕ → List (Option ℕ)
names_of nodes roots = names_from 0 1 (flat_map children_of nodes ++ roots) nodes

-- the name of a node
abbrev pub name_text : ℕ → List ℕ
name_text k = codes "[" ++ decimal k ++ codes "]"

-- the name where there is one, or else the text
abbrev pub name_or : Option ℕ → List ℕ → List ℕ
name_or (Some k) t = name_text k
name_or None t = t

-- a node as it is printed: its name, whether it is an And or Or, and its text
pub record Printed : Type 0 where
  pub name : Option ℕ
  pub is_run : Bool
  pub text : List ℕ

-- a node where a row, a change or the global condition refers to it
abbrev pub as_root : Option Printed → List ℕ
as_root None = []
as_root (Some p) = name_or p.name p.text

-- a node where its parent refers to it
abbrev pub as_child : Option Printed → List ℕ
as_child None = []
as_child (Some p) = name_or p.name (if p.is_run then in_parentheses p.text else p.text)

-- a node's text over the nodes before it
abbrev pub node_text : List Printed → Node → List ℕ
node_text before node.True = codes "true"
node_text before node.False = codes "false"
node_text before (node.Eq s t) = term_text s ++ codes " = " ++ term_text t
node_text before (node.Ne s t) = term_text s ++ codes " <> " ++ term_text t
node_text before (node.And ks) = join_by (λ k. as_child (slice_get before k)) (codes " and ") ks
node_text before (node.Or ks) = join_by (λ k. as_child (slice_get before k)) (codes " or ") ks

-- the nodes with these names as they are printed, after those before
abbrev pub printed_after : List Printed → List (Option ℕ) → List Node → List Printed
printed_after before (name ∷ names) (n ∷ ns) =
    printed_after (before ++ record { name = name; is_run = is_run n; text = node_text before n } ∷ []) names ns
printed_after before _ _ = before

-- a node list with these names as it is printed
abbrev pub with_names : List Node → List (Option ℕ) → List Printed
with_names nodes names = printed_after [] names nodes

-- a node list as it is printed; roots are the references from outside the list
abbrev pub printed : List Node → List ℕ → List Printed
printed nodes roots = with_names nodes (names_of nodes roots)

-- the line of a node's name, where it has one
abbrev pub name_line : Option ℕ → List ℕ → List (List ℕ)
name_line None t = []
name_line (Some k) t = line (codes "  " ++ name_text k ++ codes " is " ++ t) ∷ []

-- the lines of the names of a node list
abbrev pub name_lines : List Printed → List (List ℕ)
name_lines ps = flat_map (λ p. name_line p.name p.text) ps

-- whether this is the node True
abbrev pub is_true_node : Option Node → Bool
is_true_node (Some node.True) = true
is_true_node _ = false

-- whether this is the node False
abbrev pub is_false_node : Option Node → Bool
is_false_node (Some node.False) = true
is_false_node _ = false

-- the condition at a position after a word, nothing where it is True
abbrev pub unless_true : List Node → List Printed → List ℕ → ℕ → List ℕ
unless_true nodes ps word k = if is_true_node (slice_get nodes k) then [] else word ++ as_root (slice_get ps k)
