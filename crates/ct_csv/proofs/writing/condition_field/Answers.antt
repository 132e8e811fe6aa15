use Rattle.std.proofs.Common.{◌++◌, [], refl, ap, sym, ◌∙◌}
use Rattle.ct_rewrite.{specs.Nodes.{node_condition, read_nodes}, specs.Sizes.text_of, proofs.Nodes.node_read}
use Rattle.ct_csv.{specs.Exported.{condition_text, renamed_text}, proofs.ExportTexts.{true_field, other_field}}
use Rattle.ct_csv.proofs.writing.condition_field.Goals as goal

pub returns-then-is_true : goal.returns-then-is_true
returns-then-is_true c =
    let at = node_read _ c.args.nodes.now _ c.args.position _ c.requires.ordered refl refl c.requires.within c.index-nodes-position.is in
    c.new-out.ensures.bytes
    ∙ sym (ap (condition_text c.args.underscores) at.value ∙ true_field c.args.underscores (read_nodes [] c.args.nodes.now) _ (sym c.is_true.ensures ∙ c.if-is_true.true))

pub returns : goal.returns
returns c =
    let at = node_read _ c.args.nodes.now _ c.args.position _ c.requires.ordered refl refl c.requires.within c.index-nodes-position.is in
    let w = text_of (renamed_text c.args.underscores) (node_condition c.args.nodes.now c.args.position) in
    c.in_ok-push_condition.ensures ∙ ap (λ x. x ++ w) c.new-out.ensures.bytes
    ∙ sym (ap (condition_text c.args.underscores) at.value
    ∙ other_field c.args.underscores (read_nodes [] c.args.nodes.now) _ (sym c.is_true.ensures ∙ c.if-is_true.false)
    ∙ ap (text_of (renamed_text c.args.underscores)) (sym at.value))
