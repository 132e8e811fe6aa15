-- No child of a node is True or False.
use Rattle.std.{proofs.Common.{◌≡◌, ℕ, zero, suc, true, not, ◌&&◌, List, [], ◌∷◌, ◌++◌, map, refl, ap, sym, ◌∙◌, subst}, specs.Prelude.IsTrue}
use Rattle.std.{specs.List.{list_all, list_any}, proofs.lemmas.Bool.{cond_both, and_parts, and_from}, proofs.lemmas.List.Folds.list_all-append}
use Rattle.indexmap.specs.IndexSet.{insert_key}
use Rattle.ct_word.{specs.Condition.{Condition, listed}, specs.declared.connectives.Connective.Connective}
use Rattle.ct_rewrite.{specs.declared.answer.Node.Node, specs.Nodes.{nth, read_nodes, node_value, node_condition}, specs.Building.joint_node}
use Rattle.ct_rewrite.{specs.Joining.is_no_literal, specs.Rules.{is_literal, are_no_literals, has_no_literals}, proofs.Nodes.read-append}
use Rattle.ct_rewrite.proofs.Building.{compared}
use Rattle.ct_word.specs.declared.connectives.Connective.TheVariants as connective

-- a node that was put behind the others
pub inserted_literals : (ns : List Node) (n : Node) → IsTrue (list_all has_no_literals (read_nodes [] ns)) → IsTrue (has_no_literals (node_value ns n))
    → IsTrue (list_all has_no_literals (read_nodes [] (insert_key compared ns n)))
inserted_literals ns n all e =
    cond_both (list_any (compared n) ns) ns (ns ++ n ∷ []) (λ xs. IsTrue (list_all has_no_literals (read_nodes [] xs))) (λ i. all)
    (λ i. ap (list_all has_no_literals) (read-append [] ns (n ∷ [])) ∙ list_all-append has_no_literals (read_nodes [] ns) (node_value ns n ∷ [])
    ∙ and_from _ _ all (and_from _ true e refl))

nth_has : (cs : List Condition) (k : ℕ) → IsTrue (list_all has_no_literals cs) → IsTrue (has_no_literals (nth cs k))
nth_has [] zero e = refl
nth_has [] (suc k) e = refl
nth_has (c ∷ cs) zero e = (and_parts (has_no_literals c) (list_all has_no_literals cs) e).0
nth_has (c ∷ cs) (suc k) e = nth_has cs k (and_parts (has_no_literals c) (list_all has_no_literals cs) e).1

-- the condition at each position
pub literals_at : (ns : List Node) (k : ℕ) → IsTrue (list_all has_no_literals (read_nodes [] ns)) → IsTrue (has_no_literals (node_condition ns k))
literals_at ns k e = nth_has (read_nodes [] ns) k e

pub node_literals : (ns : List Node) (k : ℕ) (n : Node) → node_condition ns k ≡ node_value ns n → IsTrue (list_all has_no_literals (read_nodes [] ns))
    → IsTrue (has_no_literals (node_value ns n))
node_literals ns k n value e = subst (λ c. IsTrue (has_no_literals c)) value (literals_at ns k e)

of_children : (cs : List Condition) (ks : List ℕ) → are_no_literals (listed (map (nth cs) ks)) ≡ list_all (λ k. not (is_literal (nth cs k))) ks
of_children cs [] = refl
of_children cs (k ∷ ks) = ap (λ b. not (is_literal (nth cs k)) && b) (of_children cs ks)

joint_literals : (j : Connective) (ns : List Node) (ks : List ℕ) → has_no_literals (node_value ns (joint_node j ks)) ≡ list_all (is_no_literal ns) ks
joint_literals connective.And ns ks = of_children (read_nodes [] ns) ks
joint_literals connective.Or ns ks = of_children (read_nodes [] ns) ks

-- a connective's node over these children
pub gathered_literals : (j : Connective) (ns : List Node) (ks read : List ℕ) (n : Node) → read ≡ ks → n ≡ joint_node j read → IsTrue (list_all (is_no_literal ns) ks)
    → IsTrue (has_no_literals (node_value ns n))
gathered_literals j ns ks read n e f h = ap (λ m. has_no_literals (node_value ns m)) (f ∙ ap (joint_node j) e) ∙ joint_literals j ns ks ∙ h

-- the children that a node brings
pub children_literals : (j : Connective) (n : Node) (ks : List ℕ) → n ≡ joint_node j ks → (ns : List Node) → IsTrue (has_no_literals (node_value ns n)) → IsTrue (list_all (is_no_literal ns) ks)
children_literals j n ks is ns h = sym (joint_literals j ns ks) ∙ ap (λ m. has_no_literals (node_value ns m)) (sym is) ∙ h
