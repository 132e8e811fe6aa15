use Rattle.std.proofs.Common.{◌≡◌, ap, sym, ◌∙◌, subst}
use Rattle.ct_rewrite.specs.Nodes.{condition_of_node}
use Rattle.ct_rewrite.specs.declared.answer.Node.TheVariants as node
use Rattle.ct_csv.{specs.Measured.size_of, proofs.Widths.{and_size, or_size}}
use Rattle.ct_csv.proofs.measuring.node_size.Goals as goal

pub returns-in-And : goal.returns-in-And
returns-in-And c = λ cs are.
    subst (λ n. c.parts.result ≡ size_of (condition_of_node cs n)) (sym (c.in-And.is ∙ ap (λ ks. node.And ks) (sym c.as_slice.ensures)))
    (and_size cs c.as_slice.result.now c.parts.result (c.parts.ensures.bytes cs are) (c.parts.ensures.nest cs are) c.parts.ensures.run)

pub returns-in-Or : goal.returns-in-Or
returns-in-Or c = λ cs are.
    subst (λ n. c.parts-in-Or.result ≡ size_of (condition_of_node cs n)) (sym (c.in-Or.is ∙ ap (λ ks. node.Or ks) (sym c.as_slice-in-Or.ensures)))
    (or_size cs c.as_slice-in-Or.result.now c.parts-in-Or.result (c.parts-in-Or.ensures.bytes cs are) (c.parts-in-Or.ensures.nest cs are) c.parts-in-Or.ensures.run)
