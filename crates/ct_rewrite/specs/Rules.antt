-- What the printed form allows at each node.
use Rattle.std.specs.Prelude.{ℕ, not, ◌&&◌, Bool, true, false, List, [], ◌∷◌, length, nat_eq, nat_le}
use Rattle.std.specs.List.{list_all}
use Rattle.ct_word.specs.declared.values.Term.{Term}
use Rattle.ct_word.specs.declared.values.Term.TheVariants as term
use Rattle.ct_word.specs.Condition.{Condition, Conditions, True, False, And, Or, none, also}
use Rattle.ct_rewrite.specs.declared.answer.Node.{Node}
use Rattle.ct_rewrite.specs.declared.answer.Node.TheVariants as node
use Rattle.ct_rewrite.specs.Nodes.{children_of}
use Rattle.ct_rewrite.specs.Order.{is_before}

-- two children at least, and 64 at most
abbrev pub is_count_of_children : ℕ → Bool
is_count_of_children n = nat_le 2 n && nat_le n 64

-- whether an And or an Or has so many children
abbrev pub are_children_within : Node → Bool
are_children_within (node.And ks) = is_count_of_children (length ks)
are_children_within (node.Or ks) = is_count_of_children (length ks)
are_children_within _ = true

-- whether the first term of an equality, or of the denial of one, is smaller than the second
abbrev pub are_sides_in_order : Node → Bool
are_sides_in_order (node.Eq s t) = is_before s t
are_sides_in_order (node.Ne s t) = is_before s t
are_sides_in_order _ = true

-- whether two terms are constants
abbrev pub are_constants : Term → Term → Bool
are_constants (term.Value x) (term.Value y) = true
are_constants _ _ = false

-- whether a node compares no two constants
abbrev pub is_unsettled : Node → Bool
is_unsettled (node.Eq s t) = not (are_constants s t)
is_unsettled (node.Ne s t) = not (are_constants s t)
is_unsettled _ = true

-- whether a position is none of these
abbrev pub is_none_of : ℕ → List ℕ → Bool
is_none_of k ks = list_all (λ j. not (nat_eq k j)) ks

-- whether each of these positions is none of those behind it
abbrev pub are_distinct : List ℕ → Bool
are_distinct [] = true
are_distinct (k ∷ ks) = is_none_of k ks && are_distinct ks

-- whether no position stands twice among the children of an And or an Or
abbrev pub are_children_distinct : Node → Bool
are_children_distinct n = are_distinct (children_of n)

-- whether the printed form allows a node
abbrev pub is_proper : Node → Bool
is_proper n = are_children_within n && are_sides_in_order n && is_unsettled n && are_children_distinct n

-- whether a condition is True or False
abbrev pub is_literal : Condition → Bool
is_literal True = true
is_literal False = true
is_literal _ = false

-- whether none of these conditions is True or False
abbrev pub are_no_literals : Conditions → Bool
are_no_literals none = true
are_no_literals (also c cs) = not (is_literal c) && are_no_literals cs

-- whether an And or an Or has no part that is True or False
abbrev pub has_no_literals : Condition → Bool
has_no_literals (And cs) = are_no_literals cs
has_no_literals (Or cs) = are_no_literals cs
has_no_literals _ = true
