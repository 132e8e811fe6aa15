-- Conditions that are all the word true.
use Rattle.std.{proofs.Common.{◌≡◌, ℕ, zero, suc, true, false, List, [], ◌∷◌, length, refl, sym, subst, ◌∙◌}, specs.Prelude.{IsTrue, replicate}}
use Rattle.std.{specs.List.{list_all, AllZip, IsDistinct}, proofs.lemmas.Bool.{false≢true, and_parts}}
use Rattle.ct_word.{specs.Condition.{Condition, True}, specs.Reading.condition_at, specs.WellFormed.{IsWellFormed, is_place_of}}
use Rattle.ct_worlds.{specs.declared.shape.Shape.Shape, specs.Shape.{condition_of, shape_at}, proofs.Shaped.shaped}
use Rattle.ct_rewrite.{specs.declared.answer.Node.Node, specs.Nodes.{node_condition, is_position, same_node}}
use Rattle.ct_rewrite.specs.Plain.{is_true_at, is_true_shape}
use Rattle.ct_word.specs.declared.kinds.Class.TheVariants as class
use Rattle.ct_rewrite.specs.declared.answer.Node.TheVariants as node
use Rattle.ct_worlds.specs.declared.shape.Shape.TheVariants as shape

-- the node list of the condition true
abbrev one_true : List Node
one_true = node.True ∷ []

pub one_distinct : IsDistinct same_node one_true
unfolding IsDistinct
one_distinct = (tt, tt)

-- as many positions of it as there are places
zeros_placed : (n : ℕ) → IsTrue (list_all (is_position one_true) (replicate n 0))
zeros_placed zero = refl
zeros_placed (suc n) = zeros_placed n

pub zeros_are_placed : (n : ℕ) (nodes : List Node) (ks : List ℕ) → nodes ≡ one_true → ks ≡ replicate n 0 → IsTrue (list_all (is_position nodes) ks)
zeros_are_placed n nodes ks is are = (λ i. list_all (is_position (is i)) (are i)) ∙ zeros_placed n

module _ (ws : List ℕ) (formed : IsWellFormed ws) where
  true_there : (p : ℕ) → IsTrue (is_place_of ws class.Cond p) → IsTrue (is_true_at ws p) → condition_at ws p ≡ True
  true_there p placed e = (shaped ws p formed placed).condition ∙ by (shape_at ws p) e where
    by : (s : Shape) → IsTrue (is_true_shape s) → condition_of ws s ≡ True
    by (shape.Literal true) e = refl
    by (shape.Literal false) e = absurd (false≢true e)
    by (shape.Equal a b) e = absurd (false≢true e)
    by (shape.Not a) e = absurd (false≢true e)
    by (shape.Joined j a b) e = absurd (false≢true e)

  -- what holds of true and true holds of each position and the condition of its place
  module _ (P : Condition → Condition → Type 0) (holds : P True True) where
    pub zeros_stand : (places : List ℕ) → IsTrue (list_all (is_place_of ws class.Cond) places) → IsTrue (list_all (is_true_at ws) places)
        → AllZip (λ k p. P (node_condition one_true k) (condition_at ws p)) (replicate (length places) 0) places
    zeros_stand [] placed e = tt
    zeros_stand (p ∷ places) placed e =
        let at = and_parts (is_place_of ws class.Cond p) (list_all (is_place_of ws class.Cond) places) placed in
        let is = and_parts (is_true_at ws p) (list_all (is_true_at ws) places) e in
        (subst (λ c. P True c) (sym (true_there p at.0 is.0)) holds, zeros_stand places at.1 is.1)

-- the same of a node list and of positions that are these
pub zeros_are : (ws : List ℕ) → IsWellFormed ws → (P : Condition → Condition → Type 0) → P True True → (places : List ℕ)
    → IsTrue (list_all (is_place_of ws class.Cond) places) → IsTrue (list_all (is_true_at ws) places) → (nodes : List Node) (ks : List ℕ) → nodes ≡ one_true → ks ≡ replicate (length places) 0
    → AllZip (λ k p. P (node_condition nodes k) (condition_at ws p)) ks places
zeros_are ws formed P holds places placed e nodes ks is are =
    subst (λ (js : List ℕ). AllZip (λ k p. P (node_condition nodes k) (condition_at ws p)) js places) (sym are)
    (subst (λ (ns : List Node). AllZip (λ k p. P (node_condition ns k) (condition_at ws p)) (replicate (length places) 0) places) (sym is) (zeros_stand ws formed P holds places placed e))
