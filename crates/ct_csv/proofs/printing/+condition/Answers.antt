use Rattle.std.proofs.Common.{◌++◌, [], get_or, nat_lt, refl, ap, sym, ◌∙◌, subst, arith, rules, codes, IsTrue}
use Rattle.std.{specs.Prelude.string_bytes, specs.List.{list_all, join_by}, proofs.lemmas.List.take_all}
use Rattle.ct_rewrite.{specs.Nodes.{node_condition, node_value, read_nodes, stands_over}, specs.Sizes.{as_part, text_of}, proofs.Nodes.node_read}
use Rattle.ct_rewrite.specs.declared.answer.Node.TheVariants as node
use Rattle.ct_print.{specs.Written.Appends, proofs.Joins.join_written}
use Rattle.ct_csv.{specs.Exported.{renamed_text}, proofs.ExportTexts.{part_text, parts_joined, part_alone, part_closed, on_ok, closed_text}}
use Rattle.ct_csv.proofs.printing.+condition.Goals as goal

pub push_condition-push_parts-requires : goal.push_condition-push_parts-requires
push_condition-push_parts-requires t c =
    let at = node_read _ c.args.nodes.now _ c.args.position _ c.requires.ordered refl refl c.requires.within c.index-nodes-position.is in
    let below : IsTrue (list_all (λ k. nat_lt k c.args.position) c.as_slice.result.now) =
    subst (λ n. IsTrue (stands_over c.args.position n)) (c.in-And.is ∙ ap (λ ks. node.And ks) (sym c.as_slice.ensures)) at.below in
    search (rules, below)

pub push_condition-push_parts-requires-in-Or : goal.push_condition-push_parts-requires-in-Or
push_condition-push_parts-requires-in-Or t c =
    let at = node_read _ c.args.nodes.now _ c.args.position _ c.requires.ordered refl refl c.requires.within c.index-nodes-position.is in
    let below : IsTrue (list_all (λ k. nat_lt k c.args.position) c.as_slice-in-Or.result.now) =
    subst (λ n. IsTrue (stands_over c.args.position n)) (c.in-Or.is ∙ ap (λ ks. node.Or ks) (sym c.as_slice-in-Or.ensures)) at.below in
    search (rules, below)

pub push_condition-returns-in-True : goal.push_condition-returns-in-True
push_condition-returns-in-True t c =
    let at = node_read _ c.args.nodes.now _ c.args.position _ c.requires.ordered refl refl c.requires.within c.index-nodes-position.is in
    subst (λ d. Appends c.push_text.result c.args.out.now c.push_text.new.out (text_of (renamed_text c.args.underscores) d)) (sym (at.value ∙ ap (node_value c.args.nodes.now) c.in-True.is)) c.push_text.ensures

pub push_condition-returns-in-False : goal.push_condition-returns-in-False
push_condition-returns-in-False t c =
    let at = node_read _ c.args.nodes.now _ c.args.position _ c.requires.ordered refl refl c.requires.within c.index-nodes-position.is in
    subst (λ d. Appends c.push_text-in-False.result c.args.out.now c.push_text-in-False.new.out (text_of (renamed_text c.args.underscores) d)) (sym (at.value ∙ ap (node_value c.args.nodes.now) c.in-False.is)) c.push_text-in-False.ensures

pub push_condition-returns-in-Eq : goal.push_condition-returns-in-Eq
push_condition-returns-in-Eq t c =
    let at = node_read _ c.args.nodes.now _ c.args.position _ c.requires.ordered refl refl c.requires.within c.index-nodes-position.is in
    subst (λ d. Appends c.push_compared.result c.args.out.now c.push_compared.new.out (text_of (renamed_text c.args.underscores) d)) (sym (at.value ∙ ap (node_value c.args.nodes.now) c.in-Eq.is)) c.push_compared.ensures

pub push_condition-returns-in-Ne : goal.push_condition-returns-in-Ne
push_condition-returns-in-Ne t c =
    let at = node_read _ c.args.nodes.now _ c.args.position _ c.requires.ordered refl refl c.requires.within c.index-nodes-position.is in
    subst (λ d. Appends c.push_compared-in-Ne.result c.args.out.now c.push_compared-in-Ne.new.out (text_of (renamed_text c.args.underscores) d)) (sym (at.value ∙ ap (node_value c.args.nodes.now) c.in-Ne.is)) c.push_compared-in-Ne.ensures

pub push_condition-returns-in-And : goal.push_condition-returns-in-And
push_condition-returns-in-And t c =
    let at = node_read _ c.args.nodes.now _ c.args.position _ c.requires.ordered refl refl c.requires.within c.index-nodes-position.is in
    subst (λ d. Appends c.push_parts.result c.args.out.now c.push_parts.new.out (text_of (renamed_text c.args.underscores) d))
    (sym (at.value ∙ ap (node_value c.args.nodes.now) (c.in-And.is ∙ ap (λ ks. node.And ks) (sym c.as_slice.ensures)))) c.push_parts.ensures

pub push_condition-returns-in-Or : goal.push_condition-returns-in-Or
push_condition-returns-in-Or t c =
    let at = node_read _ c.args.nodes.now _ c.args.position _ c.requires.ordered refl refl c.requires.within c.index-nodes-position.is in
    subst (λ d. Appends c.push_parts-in-Or.result c.args.out.now c.push_parts-in-Or.new.out (text_of (renamed_text c.args.underscores) d))
    (sym (at.value ∙ ap (node_value c.args.nodes.now) (c.in-Or.is ∙ ap (λ ks. node.Or ks) (sym c.as_slice-in-Or.ensures)))) c.push_parts-in-Or.ensures

pub push_part-returns-then-not-is_run : goal.push_part-returns-then-not-is_run
push_part-returns-then-not-is_run t c =
    let at = node_read _ c.args.nodes.now _ c.args.position _ c.requires.ordered refl refl c.requires.within c.index-nodes-position.is in
    let w = text_of (renamed_text c.args.underscores) (node_condition c.args.nodes.now c.args.position) in
    let alone = sym c.is_run.ensures ∙ c.if-not-is_run.true in
    subst (λ x. Appends c.push_condition.result c.args.out.now c.push_condition.new.out x)
    (sym (ap (λ d. as_part d w) at.value ∙ part_alone (read_nodes [] c.args.nodes.now) _ w alone)) c.push_condition.ensures

pub push_part-returns : goal.push_part-returns
push_part-returns t c =
    let at = node_read _ c.args.nodes.now _ c.args.position _ c.requires.ordered refl refl c.requires.within c.index-nodes-position.is in
    let w = text_of (renamed_text c.args.underscores) (node_condition c.args.nodes.now c.args.position) in
    let run = sym c.is_run.ensures ∙ c.if-not-is_run.false in
    let whole = ap (λ d. as_part d w) at.value ∙ part_closed (read_nodes [] c.args.nodes.now) _ w run in
    on_ok c.push_text.result
    (λ last.
    last ∙ ap (λ x. x ++ codes ")") (c.in_ok-push_condition.ensures ∙ ap (λ x. x ++ w) c.in_ok-push_str.ensures.bytes)
    ∙ closed_text (string_bytes c.args.out.now) w ∙ ap (λ x. string_bytes c.args.out.now ++ x) (sym whole)) c.push_text.ensures

pub push_parts-loop-i-preserved : goal.push_parts-loop-i-preserved
push_parts-loop-i-preserved t c =
    join_written (part_text (renamed_text c.args.underscores) c.args.between.now (node_condition c.args.nodes.now)) c.args.between.now c.args.positions.now c.loop-i.i (get_or c.args.positions.now c.loop-i.i 0) 0 _ _ _ _
    (omega arith) refl c.loop-i.invariant c.in_ok-push_separator.ensures c.in_ok-push_part.ensures

pub push_parts-returns : goal.push_parts-returns
push_parts-returns t c =
    let f = node_condition c.args.nodes.now in
    let texts = renamed_text c.args.underscores in
    c.loop-i.invariant
    ∙ ap (λ ks. string_bytes c.args.out.now ++ join_by (part_text texts c.args.between.now f) c.args.between.now ks) (take_all c.loop-i.i c.args.positions.now (omega arith))
    ∙ ap (λ x. string_bytes c.args.out.now ++ x) (sym (parts_joined texts c.args.between.now f c.args.positions.now))
