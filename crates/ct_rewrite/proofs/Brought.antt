-- What a form brings under a connective.
use Rattle.std.{proofs.Common.{◌≡◌, ℕ, ◌+◌, ◌<◌, Bool, true, false, ◌&&◌, List, [], ◌∷◌, length, refl, ap, sym, ◌∙◌, subst, arith}, specs.Prelude.IsTrue}
use Rattle.std.{proofs.lemmas.Bool.{and_from, lt-ltb, le-leb}, proofs.lemmas.List.Sums.sum_by-cons}
use Rattle.ct_word.{specs.declared.values.Value.Value, specs.Value.World, specs.Condition.holds, specs.declared.connectives.Connective.Connective}
use Rattle.ct_word.specs.Connective.{unit, open_by}
use Rattle.ct_rewrite.{specs.declared.answer.Node.Node, specs.Nodes.{node_condition, node_value, stands_over}, specs.Building.{joint_node, literal_node}}
use Rattle.ct_rewrite.{specs.Joining.{Brings, gap}, specs.Rules.is_proper, specs.Sizes.{part_length, part_nest}, proofs.Sizes.children_no_larger}
use Rattle.ct_rewrite.{proofs.Openings.{children_stand, children_placed}, proofs.Rules.brought_distinct}
use Rattle.ct_word.specs.declared.connectives.Connective.TheVariants as connective

-- a form that stays as it is
pub brought_itself : (j : Connective) (ns : List Node) (ks : List ℕ) (k : ℕ) → ks ≡ k ∷ [] → k < length ns → Brings j ns ks k
brought_itself j ns ks k is lt = subst (λ (xs : List ℕ). Brings j ns xs k) (sym is) (record {
  placed = and_from _ true (lt-ltb k (length ns) lt) refl;
  truth = λ v row. alone _;
  size = record {
    short = λ texts. omega (arith, sum_by-cons (λ i. part_length texts (node_condition ns i) + gap j) k []);
    shallow = and_from _ true (le-leb (part_nest (node_condition ns k)) _ (omega arith)) refl;
  };
  distinct = refl;
}) where
  alone : (b : Bool) → (b && true) ≡ b
  alone true = refl
  alone false = refl

-- a form that says nothing
pub nothing_brought : (j : Connective) (ns : List Node) (ks : List ℕ) (k : ℕ) (n : Node) (b : Bool) → ks ≡ [] → node_condition ns k ≡ node_value ns n → n ≡ literal_node b → b ≡ unit j
    → Brings j ns ks k
nothing_brought j ns ks k n b is value literal e = subst (λ (xs : List ℕ). Brings j ns xs k) (sym is) (record {
  placed = refl;
  truth = λ v row. sym (ap (λ c. open_by j (holds v row c)) (value ∙ ap (node_value ns) (literal ∙ ap literal_node e)) ∙ opens j v row);
  size = record { short = λ texts. omega arith; shallow = refl };
  distinct = refl;
}) where
  opens : (i : Connective) (v : World) (row : List Value) → open_by i (holds v row (node_value ns (literal_node (unit i)))) ≡ true
  opens connective.And v row = refl
  opens connective.Or v row = refl

-- the children of a node of this connective
pub children_brought : (j : Connective) (ns : List Node) (k : ℕ) (n : Node) (ks : List ℕ) → k < length ns → node_condition ns k ≡ node_value ns n → IsTrue (stands_over k n) → IsTrue (is_proper n)
    → n ≡ joint_node j ks → Brings j ns ks k
children_brought j ns k n ks lt value over proper e = record {
  placed = children_placed j ns k n ks lt over e;
  truth = children_stand j ns k n value ks e;
  size = children_no_larger j ns k n ks value e;
  distinct = brought_distinct j n ks e proper;
}
