-- What putting a node into a list of distinct nodes does.
use Rattle.std.{proofs.Common.{◌≡◌, ℕ, Bool, true, List, [], ◌∷◌, ◌++◌, length, Some, refl, ap, sym, ◌∙◌, subst}, specs.Prelude.{slice_get, IsTrue}}
use Rattle.std.{specs.List.{list_all, list_any, IsDistinct}, proofs.lemmas.Bool.{cond_both, and_from}, proofs.lemmas.List.Folds.list_all-append}
use Rattle.indexmap.specs.IndexSet.{insert_key}
use Rattle.ct_rewrite.{specs.declared.answer.Node.Node, specs.Nodes.{node_value, node_condition, stands_over, IsOrdered, same_node}, specs.Rules.is_proper}
use Rattle.ct_rewrite.proofs.Nodes.{ordered_push, value_stays, condition_of_position, node_compared, same_node_is}
use Rattle.ct_rewrite.specs.contracts.answer.NodePartialEq.TheImpl as node_eq

abbrev pub compared : Node → Node → Bool
compared = node_eq.ghosts.eq

module _ (ns : List Node) (n : Node) (ordered : IsOrdered ns) (over : IsTrue (stands_over (length ns) n)) where
  pub inserted_ordered : IsOrdered (insert_key compared ns n)
  inserted_ordered = cond_both (list_any (compared n) ns) ns (ns ++ n ∷ []) IsOrdered (λ e. ordered) (λ e. ordered_push ns n ordered over)

  value_inserted : node_value (insert_key compared ns n) n ≡ node_value ns n
  value_inserted = cond_both (list_any (compared n) ns) ns (ns ++ n ∷ []) (λ xs. node_value xs n ≡ node_value ns n) (λ e. refl) (λ e. value_stays ns (n ∷ []) n over)

  -- the position of the node has its condition
  pub inserted_value : (new : List Node) (k : ℕ) → new ≡ insert_key compared ns n
      → (m : Node) × (slice_get new k ≡ Some m) × (compared n m ≡ true) → node_condition new k ≡ node_value ns n
  inserted_value new k e found =
      let same : n ≡ found.0 = same_node_is n found.0 (sym (node_compared n found.0) ∙ found.2) in
      condition_of_position new k found.0 (subst IsOrdered (sym e) inserted_ordered) found.1
      ∙ ap (node_value new) (sym same) ∙ ap (λ xs. node_value xs n) e ∙ value_inserted

pub inserted_proper : (ns : List Node) (n : Node) → IsTrue (list_all is_proper ns) → IsTrue (is_proper n) → IsTrue (list_all is_proper (insert_key compared ns n))
inserted_proper ns n all e =
    cond_both (list_any (compared n) ns) ns (ns ++ n ∷ []) (λ xs. IsTrue (list_all is_proper xs)) (λ i. all)
    (λ i. list_all-append is_proper ns (n ∷ []) ∙ and_from _ _ all (and_from (is_proper n) true e refl))

-- distinct by the derived comparison, and by that of the definitions
pub distinct_nodes : (ns : List Node) → IsDistinct compared ns → IsDistinct same_node ns
distinct_nodes ns d = subst (λ (same : Node → Node → Bool). IsDistinct same ns) (λ i a b. node_compared a b i) d
