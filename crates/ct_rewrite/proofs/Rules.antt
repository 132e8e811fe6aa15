-- What is kept of the nodes that the printed form allows.
use Rattle.std.{proofs.Common.{◌≡◌, ℕ, zero, suc, ◌+◌, ◌≤◌, true, ◌&&◌, List, [], ◌∷◌, length, map, Some, refl, sym, subst, arith}, specs.List.list_all}
use Rattle.std.{specs.Prelude.{IsTrue, slice_get, sum_by}, proofs.lemmas.Bool.{and_parts, and_from}, proofs.lemmas.List.length-map}
use Rattle.std.proofs.lemmas.List.Sums.{sum_by-cons}
use Rattle.ct_rewrite.{specs.declared.answer.Node.Node, specs.Nodes.children_of, specs.Building.joint_node, specs.Joining.HasNoMoreThan}
use Rattle.ct_rewrite.{specs.Moving.moved_node, specs.Below.{Placement, position_at}}
use Rattle.ct_rewrite.specs.Rules.{is_count_of_children, is_proper, are_children_within, are_sides_in_order, is_unsettled, are_distinct, are_children_distinct}
use Rattle.ct_word.specs.declared.connectives.Connective.{Connective}
use Rattle.ct_rewrite.specs.declared.answer.Node.TheVariants as node
use Rattle.ct_word.specs.declared.connectives.Connective.TheVariants as connective

counted : (xs : List ℕ) → sum_by (λ x. 1) xs ≡ length xs
counted [] = refl
counted (x ∷ xs) = omega (arith, sum_by-cons (λ y. 1) x xs, counted xs)

pub no_longer : (all ks ls read : List ℕ) (most : ℕ) → read ≡ ls → HasNoMoreThan all ks read → length ks + length ls ≤ most → length all ≤ most
no_longer all ks ls read most same once few =
    omega (arith, subst (HasNoMoreThan all ks) same once (λ x. 1), counted all, counted ks, counted ls, few)

-- a node keeps what makes it proper when its children go elsewhere, each to a place of its own
pub moved_proper : (ps : Placement) (n : Node) → IsTrue (is_proper n) → IsTrue (are_distinct (map (position_at ps) (children_of n))) → IsTrue (is_proper (moved_node ps n))
moved_proper ps (node.And ks) e d =
    and_from _ _ (subst (λ m. IsTrue (is_count_of_children m && true && true)) (sym (length-map ks (position_at ps))) (and_parts (is_count_of_children (length ks) && true && true) (are_distinct ks) e).0) d
moved_proper ps (node.Or ks) e d =
    and_from _ _ (subst (λ m. IsTrue (is_count_of_children m && true && true)) (sym (length-map ks (position_at ps))) (and_parts (is_count_of_children (length ks) && true && true) (are_distinct ks) e).0) d
moved_proper ps node.True e d = e
moved_proper ps node.False e d = e
moved_proper ps (node.Eq s t) e d = e
moved_proper ps (node.Ne s t) e d = e

pub children_within : (n : Node) → IsTrue (is_proper n) → IsTrue (are_children_within n)
children_within n e = (and_parts _ _ (and_parts _ (is_unsettled n) (and_parts _ (are_children_distinct n) e).0).0).0

pub sides_in_order : (n : Node) → IsTrue (is_proper n) → IsTrue (are_sides_in_order n)
sides_in_order n e = (and_parts (are_children_within n) _ (and_parts _ (is_unsettled n) (and_parts _ (are_children_distinct n) e).0).0).1

pub unsettled : (n : Node) → IsTrue (is_proper n) → IsTrue (is_unsettled n)
unsettled n e = (and_parts (are_children_within n && are_sides_in_order n) _ (and_parts _ (are_children_distinct n) e).0).1

pub children_distinct : (n : Node) → IsTrue (is_proper n) → IsTrue (are_children_distinct n)
children_distinct n e = (and_parts (are_children_within n && are_sides_in_order n && is_unsettled n) _ e).1

-- the node at a position of a list of proper ones
pub proper_at : (ns : List Node) (k : ℕ) (n : Node) → slice_get ns k ≡ Some n → IsTrue (list_all is_proper ns) → IsTrue (is_proper n)
proper_at [] k n e all = cc
proper_at (m ∷ ns) zero n e all = let same : m ≡ n = cc in subst (λ x. IsTrue (is_proper x)) same (and_parts (is_proper m) (list_all is_proper ns) all).0
proper_at (m ∷ ns) (suc k) n e all = proper_at ns k n e (and_parts (is_proper m) (list_all is_proper ns) all).1

-- the children that a node brings
pub brought_distinct : (j : Connective) (n : Node) (ks : List ℕ) → n ≡ joint_node j ks → IsTrue (is_proper n) → IsTrue (are_distinct ks)
brought_distinct connective.And n ks is e = children_distinct (node.And ks) (subst (λ m. IsTrue (is_proper m)) is e)
brought_distinct connective.Or n ks is e = children_distinct (node.Or ks) (subst (λ m. IsTrue (is_proper m)) is e)
