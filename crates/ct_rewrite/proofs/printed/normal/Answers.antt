use Rattle.std.{proofs.Common.{◌∙◌, ◌≤◌, ◌^◌, List, length, refl, subst, sym, arith}, specs.Prelude.IsTrue, specs.List.{IsDistinct, list_all}, proofs.lemmas.Bool.lt-ltb, proofs.lemmas.Result.IfOk-weaker}
use Rattle.ct_word.{proofs.Items.all_implied, proofs.Growth.place_within, specs.Condition.SameTruth, specs.WellFormed.is_place_of}
use Rattle.ct_word.specs.declared.kinds.Class.TheVariants as class
use Rattle.ct_rewrite.{specs.declared.answer.Node.Node, specs.Nodes.same_node, specs.Rules.is_proper, specs.Below.has}
use Rattle.ct_rewrite.{specs.Sizes.{deep, nest_of, text_of, wide}, proofs.AllTrue.{one_distinct, zeros_are, zeros_are_placed}, proofs.Results.IfOk-both}
use Rattle.ct_rewrite.{specs.Signs.is_number, proofs.Signs.{numbers_downward, roots_inside}}
use Rattle.ct_rewrite.proofs.Conditions.{roots_placed, normal_truth, normal_wide, normal_deep, kept_placed}
use Rattle.ct_rewrite.proofs.Rules.{children_within, children_distinct, sides_in_order, unsettled}
use Rattle.ct_rewrite.proofs.printed.normal.Goals as goal

pub numbers-requires : goal.numbers-requires
numbers-requires c =
    all_implied (is_place_of c.args.words.now class.Cond) _ (λ p e. lt-ltb p (2 ^ 28) (omega (arith, place_within c.args.words.now class.Cond p e, c.requires.short))) c.args.roots.now c.requires.roots

pub below-requires-clause-downward : goal.below-requires-clause-downward
below-requires-clause-downward c = numbers_downward c.args.words.now _ c.requires.formed refl

pub below-requires-clause-roots : goal.below-requires-clause-roots
below-requires-clause-roots c =
    subst (λ ks. IsTrue (list_all (is_number c.args.words.now) ks)) (sym (c.as_slice-roots.ensures.value ∙ c.in_ok-numbered.ensures)) (roots_inside c.args.words.now c.args.roots.now c.requires.roots)

pub kept-requires-clause-roots : goal.kept-requires-clause-roots
kept-requires-clause-roots c =
    roots_placed c.args.words.now _ c.nodes.result.now c.in_ok-forms.forms (has c.in_ok-wanted.wanted.items) c.args.roots.now c.as_slice-roots.result.now c.as_slice-2.result.now
    (rw c.as_slice.ensures.value at c.in_ok-forms.ensures.forms) (c.as_slice-roots.ensures.value ∙ c.in_ok-numbered.ensures) c.in_ok-wanted.ensures.roots c.nodes.ensures.value (c.as_slice-2.ensures.value ∙ c.in_ok-positions.ensures)

pub returns-then-is_plain-clause-truth : goal.returns-then-is_plain-clause-truth
returns-then-is_plain-clause-truth c =
    IfOk-both c.all_true.result _ _ _
    (λ n. zeros_are c.args.words.now c.requires.formed SameTruth (λ v row. refl) c.args.roots.now c.requires.roots (c.is_plain.ensures c.if-is_plain.true) n.nodes n.roots)
    c.all_true.ensures.nodes c.all_true.ensures.roots

pub returns-then-is_plain-clause-wide : goal.returns-then-is_plain-clause-wide
returns-then-is_plain-clause-wide c =
    IfOk-both c.all_true.result _ _ _
    (λ n nodes roots texts some. zeros_are c.args.words.now c.requires.formed (λ x d. length (text_of texts x) ≤ wide (λ t. length (texts t)) d) (omega arith)
    c.args.roots.now c.requires.roots (c.is_plain.ensures c.if-is_plain.true) n.nodes n.roots nodes roots)
    c.all_true.ensures.nodes c.all_true.ensures.roots

pub returns-then-is_plain-clause-deep : goal.returns-then-is_plain-clause-deep
returns-then-is_plain-clause-deep c =
    IfOk-both c.all_true.result _ _ _
    (λ n. zeros_are c.args.words.now c.requires.formed (λ x d. nest_of x ≤ deep d) (omega arith)
    c.args.roots.now c.requires.roots (c.is_plain.ensures c.if-is_plain.true) n.nodes n.roots)
    c.all_true.ensures.nodes c.all_true.ensures.roots

pub returns-then-is_plain-clause-placed : goal.returns-then-is_plain-clause-placed
returns-then-is_plain-clause-placed c =
    IfOk-both c.all_true.result _ _ _ (λ n. zeros_are_placed (length c.args.roots.now) n.nodes n.roots) c.all_true.ensures.nodes c.all_true.ensures.roots

pub returns-then-is_plain-clause-distinct : goal.returns-then-is_plain-clause-distinct
returns-then-is_plain-clause-distinct c =
    IfOk-weaker c.all_true.result _ _ (λ n e. subst (λ (ns : List Node). IsDistinct same_node ns) (sym e) one_distinct) c.all_true.ensures.nodes

pub returns-clause-truth : goal.returns-clause-truth
returns-clause-truth c =
    IfOk-weaker c.kept.result _ _
    (λ n. normal_truth c.args.words.now _ c.nodes.result.now c.in_ok-forms.forms (has c.in_ok-wanted.wanted.items) c.args.roots.now c.as_slice-roots.result.now c.as_slice-2.result.now
    (rw c.as_slice.ensures.value at c.in_ok-forms.ensures.forms) (c.as_slice-roots.ensures.value ∙ c.in_ok-numbered.ensures) c.in_ok-wanted.ensures.roots c.nodes.ensures.value (c.as_slice-2.ensures.value ∙ c.in_ok-positions.ensures) n.nodes n.roots)
    c.kept.ensures.kept

pub returns-clause-wide : goal.returns-clause-wide
returns-clause-wide c =
    IfOk-weaker c.kept.result _ _
    (λ n kept. normal_wide c.args.words.now _ c.nodes.result.now c.in_ok-forms.forms (has c.in_ok-wanted.wanted.items) c.args.roots.now c.as_slice-roots.result.now c.as_slice-2.result.now
    (rw c.as_slice.ensures.value at c.in_ok-forms.ensures.forms) (c.as_slice-roots.ensures.value ∙ c.in_ok-numbered.ensures) c.in_ok-wanted.ensures.roots c.nodes.ensures.value (c.as_slice-2.ensures.value ∙ c.in_ok-positions.ensures) n.nodes n.roots kept)
    c.kept.ensures.kept

pub returns-clause-deep : goal.returns-clause-deep
returns-clause-deep c =
    IfOk-weaker c.kept.result _ _
    (λ n. normal_deep c.args.words.now _ c.nodes.result.now c.in_ok-forms.forms (has c.in_ok-wanted.wanted.items) c.args.roots.now c.as_slice-roots.result.now c.as_slice-2.result.now
    (rw c.as_slice.ensures.value at c.in_ok-forms.ensures.forms) (c.as_slice-roots.ensures.value ∙ c.in_ok-numbered.ensures) c.in_ok-wanted.ensures.roots c.nodes.ensures.value (c.as_slice-2.ensures.value ∙ c.in_ok-positions.ensures) n.nodes n.roots)
    c.kept.ensures.kept

pub returns-clause-placed : goal.returns-clause-placed
returns-clause-placed c = IfOk-weaker c.kept.result _ _ (λ n. kept_placed _ n.nodes n.roots _) c.kept.ensures.kept

pub returns-clause-children : goal.returns-clause-children
returns-clause-children c = IfOk-weaker c.kept.result _ _ (λ n. all_implied is_proper _ children_within n.nodes) c.kept.ensures.proper

pub returns-clause-children_distinct : goal.returns-clause-children_distinct
returns-clause-children_distinct c = IfOk-weaker c.kept.result _ _ (λ n. all_implied is_proper _ children_distinct n.nodes) c.kept.ensures.proper

pub returns-clause-sides : goal.returns-clause-sides
returns-clause-sides c = IfOk-weaker c.kept.result _ _ (λ n. all_implied is_proper _ sides_in_order n.nodes) c.kept.ensures.proper

pub returns-clause-unsettled : goal.returns-clause-unsettled
returns-clause-unsettled c = IfOk-weaker c.kept.result _ _ (λ n. all_implied is_proper _ unsettled n.nodes) c.kept.ensures.proper
