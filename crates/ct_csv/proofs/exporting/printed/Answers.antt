use Rattle.std.{proofs.Common.{◌≤◌, length, sym, ◌∙◌, subst}, specs.Prelude.IsTrue, specs.List.{AllZip, list_all}}
use Rattle.ct_word.{specs.Condition.SameTruth, specs.WellFormed.is_place_of, specs.Reading.condition_at}
use Rattle.ct_word.specs.declared.kinds.Class.TheVariants as class
use Rattle.ct_rewrite.{specs.Nodes.node_condition, specs.Sizes.{text_of, nest_of, wide, deep}}
use Rattle.ct_csv.proofs.Files.{roots_of}
use Rattle.ct_csv.proofs.exporting.printed.Goals as goal

pub normal-requires-clause-roots : goal.normal-requires-clause-roots
normal-requires-clause-roots c =
    let words = c.args.words.now in
    subst (λ ps. IsTrue (list_all (is_place_of words class.Cond) ps)) (sym (c.as_slice.ensures.value ∙ c.in_ok-places.ensures)) (roots_of words c.args.rows.now c.requires.conditions)

pub returns : goal.returns
returns c =
    let words = c.args.words.now in
    let nodes = c.in_ok-forms.forms.nodes in
    let ks = c.in_ok-forms.forms.roots in
    let same = c.as_slice.ensures.value ∙ c.in_ok-places.ensures in
    let is = c.in_ok-forms.ensures in
    record {
      truth = subst (λ ps. AllZip (λ k place. SameTruth (node_condition nodes k) (condition_at words place)) ks ps) same is.truth;
      bytes = λ texts some.
          subst (λ ps. AllZip (λ k place. length (text_of texts (node_condition nodes k)) ≤ wide (λ t. length (texts t)) (condition_at words place)) ks ps) same (is.wide texts some);
      nests = subst (λ ps. AllZip (λ k place. nest_of (node_condition nodes k) ≤ deep (condition_at words place)) ks ps) same is.deep;
      placed = is.placed;
      ordered = is.ordered;
      within = is.children;
    }
