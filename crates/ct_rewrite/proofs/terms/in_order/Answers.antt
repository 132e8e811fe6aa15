use Rattle.std.proofs.Common.{refl, sym, ◌∙◌}
use Rattle.ct_rewrite.proofs.Sides.{not_less, other_before}
use Rattle.ct_rewrite.proofs.terms.in_order.Goals as goal

pub returns-in_default : goal.returns-in_default
returns-in_default c = record {
  truth = λ v row. refl;
  both = λ f. refl;
  order = λ differ. other_before c.args.s c.args.t differ (sym c.compare_terms.ensures.before ∙ not_less _ c.in_default.not-Less);
  constants = refl;
}
