-- What keeping nodes at new positions keeps.
use Rattle.std.proofs.Common.{◌≡◌, ℕ, ◌+◌, ◌<◌, ◌≤◌, List, [], ◌∷◌, ◌++◌, length, map, take, get_or, nat_lt, Some, None, refl, ap, sym, ◌∙◌, subst, arith, length-append}
use Rattle.std.{specs.Prelude.{IsTrue, Option, slice_get}, specs.List.{AllByRecursion, list_all, AllZip, IsDistinct}}
use Rattle.ct_worlds.specs.Truths.{AreRising}
use Rattle.std.{proofs.lemmas.Bool.{and_parts, and_from, ltb-true, lt-ltb}, proofs.lemmas.Option.slice_get-get_or, proofs.lemmas.List.Elements.Contains-get_or}
use Rattle.ct_word.specs.Condition.{And, Or, listed}
use Rattle.ct_rewrite.{specs.declared.answer.Node.Node, specs.Below.{IsClosedFrom, IsDownward, HasAt, Placement, has, position_at}, specs.Building.Grows}
use Rattle.ct_rewrite.specs.Nodes.{IsOrdered, children_of, is_position, stands_over, nth, read_nodes, node_value, node_condition, same_node}
use Rattle.ct_rewrite.{specs.Moving.{children_of_one, children_at, moved_node, IsKept}, specs.Rules.{has_no_literals, is_proper, are_distinct}}
use Rattle.ct_rewrite.{proofs.Nodes.{condition_of_position, condition_stays, stands_at, below_more}, proofs.Finding.{have_parts, have_more}, proofs.Passing.any_of}
use Rattle.ct_rewrite.{proofs.Literals.literals_at, proofs.Rules.{proper_at, moved_proper, children_distinct}, proofs.Distinct.{distinct_mapped, one_condition}}
use Rattle.ct_rewrite.specs.declared.answer.Node.TheVariants as node

pub node_there : (nodes : List Node) (i : ℕ) (n : Node) → i < length nodes → n ≡ get_or nodes i n → slice_get nodes i ≡ Some n
node_there nodes i n lt e = slice_get-get_or nodes i n lt ∙ ap Some (sym e)

-- nodes name lower ones
pub nodes_downward : (nodes : List Node) (count : ℕ) → IsOrdered nodes → count ≡ length nodes → IsDownward (is_position nodes) (children_at nodes) count
nodes_downward nodes count ordered long = record {
  within = λ k e. omega (arith, ltb-true k (length nodes) e, long);
  lower = lower;
  inside = λ k e. below_more k (length nodes) _ (le k e) (lower k e);
} where
  le : (k : ℕ) → IsTrue (is_position nodes k) → k ≤ length nodes
  le k e = omega (arith, ltb-true k (length nodes) e)

  at : (k : ℕ) (o : Option Node) → slice_get nodes k ≡ o → IsTrue (list_all (λ p. nat_lt p k) (children_of_one o))
  at k (Some n) e = stands_at nodes k n ordered e
  at k None e = refl

  lower : (k : ℕ) → IsTrue (is_position nodes k) → IsTrue (list_all (λ p. nat_lt p k) (children_at nodes k))
  lower k e = at k (slice_get nodes k) refl

-- what was kept stays so when nodes are put at the end
pub still_kept : (nodes out new : List Node) → Grows out new → (k j : ℕ) → IsKept nodes out k j → IsKept nodes new k j
still_kept nodes out new g k j h = record {
  within = omega (arith, h.within, ap (λ (xs : List Node). length xs) g.is, length-append out g.added);
  same = ap (λ (xs : List Node). node_condition xs j) g.is ∙ condition_stays out g.added j h.within ∙ h.same;
}

module _ (nodes out : List Node) (ps : Placement) where
  -- a position has gone to one of the same condition
  abbrev IsMoved : ℕ → Type 0
  IsMoved k = HasAt (IsKept nodes out) ps k

  moved_children : (ks : List ℕ) → AllByRecursion IsMoved ks → map (nth (read_nodes [] out)) (map (position_at ps) ks) ≡ map (nth (read_nodes [] nodes)) ks
  moved_children [] h = refl
  moved_children (k ∷ ks) h = λ i. h.0.same i ∷ moved_children ks h.1 i

  -- a moved node is the condition that it was
  moved_value : (n : Node) → AllByRecursion IsMoved (children_of n) → node_value out (moved_node ps n) ≡ node_value nodes n
  moved_value (node.And ks) h = ap (λ xs. And (listed xs)) (moved_children ks h)
  moved_value (node.Or ks) h = ap (λ xs. Or (listed xs)) (moved_children ks h)
  moved_value node.True h = refl
  moved_value node.False h = refl
  moved_value (node.Eq s t) h = refl
  moved_value (node.Ne s t) h = refl

  moved_below : (ks : List ℕ) → AllByRecursion IsMoved ks → IsTrue (list_all (λ c. nat_lt c (length out)) (map (position_at ps) ks))
  moved_below [] h = refl
  moved_below (k ∷ ks) h = and_from _ _ (lt-ltb _ _ h.0.within) (moved_below ks h.1)

  moved_over : (n : Node) → AllByRecursion IsMoved (children_of n) → IsTrue (stands_over (length out) (moved_node ps n))
  moved_over (node.And ks) h = moved_below ks h
  moved_over (node.Or ks) h = moved_below ks h
  moved_over node.True h = refl
  moved_over node.False h = refl
  moved_over (node.Eq s t) h = refl
  moved_over (node.Ne s t) h = refl

  -- children go to positions of their own
  moved_apart : IsOrdered nodes → IsDistinct same_node nodes → (ks : List ℕ) → AllByRecursion IsMoved ks → IsTrue (list_all (is_position nodes) ks) → IsTrue (are_distinct ks)
      → IsTrue (are_distinct (map (position_at ps) ks))
  moved_apart ordered distinct ks h e d = distinct_mapped (position_at ps) (λ k. IsMoved k × (k < length nodes)) tells ks (both_hold ks h e) d where
    both_hold : (xs : List ℕ) → AllByRecursion IsMoved xs → IsTrue (list_all (is_position nodes) xs) → AllByRecursion (λ k. IsMoved k × (k < length nodes)) xs
    both_hold [] f g = tt
    both_hold (x ∷ xs) f g =
        let p = and_parts (is_position nodes x) (list_all (is_position nodes) xs) g in ((f.0, ltb-true x (length nodes) p.0), both_hold xs f.1 p.1)

    tells : (a b : ℕ) → IsMoved a × (a < length nodes) → IsMoved b × (b < length nodes) → position_at ps a ≡ position_at ps b → a ≡ b
    tells a b f g same =
        one_condition nodes ordered distinct a b f.1 g.1 (sym f.0.same ∙ ap (node_condition out) same ∙ g.0.same)

  roots_moved : (roots : List ℕ) → AllByRecursion IsMoved roots → AllZip (λ j k. IsKept nodes out k j) (map (position_at ps) roots) roots
  roots_moved [] h = tt
  roots_moved (r ∷ roots) h = (h.0, roots_moved roots h.1)

  -- the roots, once all positions have gone
  pub roots_kept : (final : List Node) (roots js : List ℕ) → AllByRecursion IsMoved roots → final ≡ out → js ≡ map (position_at ps) roots
      → AllZip (λ j k. IsKept nodes final k j) js roots
  roots_kept final roots js h e f =
      subst (λ (xs : List ℕ). AllZip (λ j k. IsKept nodes final k j) xs roots) (sym f)
      (subst (λ (xs : List Node). AllZip (λ j k. IsKept nodes xs k j) (map (position_at ps) roots) roots) (sym e) (roots_moved roots h))

  -- the node at the next position
  module _ (there : List ℕ) (up : AreRising there) (at : ℕ) (n : Node) (ordered : IsOrdered nodes) (inside : (k : ℕ) → IsTrue (has there k) → IsTrue (is_position nodes k))
      (closed : IsClosedFrom (children_at nodes) 0 (has there)) (kept : (k : ℕ) → IsTrue (has (take at there) k) → IsMoved k) (lt : at < length there) (is : n ≡ get_or nodes (get_or there at 0) n) where
    -- the next position
    abbrev pub i : ℕ
    i = get_or there at 0

    placed : IsTrue (has there i)
    placed = any_of there i (Contains-get_or there at 0 lt)

    pub step_within : i < length nodes
    step_within = ltb-true i (length nodes) (inside i placed)

    at_place : slice_get nodes i ≡ Some n
    at_place = node_there nodes i n step_within is

    over : IsTrue (stands_over i n)
    over = stands_at nodes i n ordered at_place

    children : AllByRecursion IsMoved (children_of n)
    children = have_parts (IsKept nodes out) ps there up at kept lt (children_of n) over
        (subst (λ ks. IsTrue (list_all (has there) ks)) (ap children_of_one at_place) (closed i (omega arith) placed))

    module _ (m : Node) (copy : m ≡ moved_node ps n) where
      pub step_over : IsTrue (stands_over (length out) m)
      step_over = subst (λ x. IsTrue (stands_over (length out) x)) (sym copy) (moved_over n children)

      pub step_proper : IsDistinct same_node nodes → IsTrue (list_all is_proper nodes) → IsTrue (is_proper m)
      step_proper distinct all =
          let proper = proper_at nodes i n at_place all in
          subst (λ x. IsTrue (is_proper x)) (sym copy)
          (moved_proper ps n proper
          (moved_apart ordered distinct (children_of n) children (below_more i (length nodes) _ (omega (arith, step_within)) over) (children_distinct n proper)))

      same_value : node_value out m ≡ node_condition nodes i
      same_value = ap (node_value out) copy ∙ moved_value n children ∙ sym (condition_of_position nodes i n ordered at_place)

      pub step_literals : IsTrue (list_all has_no_literals (read_nodes [] nodes)) → IsTrue (has_no_literals (node_value out m))
      step_literals all = subst (λ d. IsTrue (has_no_literals d)) (sym same_value) (literals_at nodes i all)

      pub step_kept : ps.places ≡ there → length ps.positions ≡ at → (new : List Node) (qs : Placement) (j : ℕ) → Grows out new → j < length new → node_condition new j ≡ node_value out m
          → qs.places ≡ ps.places → qs.positions ≡ ps.positions ++ j ∷ [] → (k : ℕ) → IsTrue (has (take (at + 1) there) k) → HasAt (IsKept nodes new) qs k
      step_kept same long new qs j g within value places put =
          have_more (IsKept nodes out) ps there up at kept lt same long (IsKept nodes new) (still_kept nodes out new g) qs j places put (record { within = within; same = value ∙ same_value })
