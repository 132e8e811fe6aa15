-- The text of the printed form of a condition, with other terms in the place of its own, is read as a condition of its truth.
use Rattle.std.{proofs.Common.{ℕ, List, subst}, specs.Prelude.IsTrue, specs.List.list_all}
use Rattle.ct_word.{specs.declared.values.Term.Term, specs.Condition.Condition, specs.Named.IsNamed}
use Rattle.ct_rewrite.{specs.declared.answer.Node.Node, specs.Nodes.node_condition, specs.Rules.are_children_within, specs.Sizes.text_of}
use Rattle.ct_print.specs.TermText.{term_text}
use Rattle.ct_reread.specs.{Mapped.mapped, Printed.{IsPlain, IsPrinted}, Reread.{IsReadAs, KeepsWithin}}
use Rattle.ct_reread.proofs.{Factors.reread, Terms.token, Mapped.{text_mapped, printed_mapped}, Nodes.{Any, node_printed}, Sources.named_before}

module _ (nodes : List Node) (k : ℕ) (c : Condition) (f : Term → Term) (within : IsTrue (list_all are_children_within nodes)) (short : KeepsWithin (node_condition nodes k) c) where
  -- a term of the form is one of the condition
  pub form_named : (t : Term) → IsNamed (node_condition nodes k) t → IsNamed c t
  form_named t named = named_before c (node_condition nodes k) (node_printed nodes k within) short t named

  pub form_reread : ((t : Term) → IsNamed c t → IsPlain (f t)) → IsReadAs (text_of (λ t. term_text (f t)) (node_condition nodes k)) (mapped f (node_condition nodes k))
  form_reread plain =
      let d = node_condition nodes k in
      let printed : IsPrinted IsPlain (mapped f d) = printed_mapped f Any IsPlain d (node_printed nodes k within) (λ t n _. plain t (form_named t n)) in
      subst (λ w. IsReadAs w (mapped f d)) (text_mapped f term_text d) (reread term_text IsPlain token (mapped f d) printed)
