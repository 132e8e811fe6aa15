use Rattle.std.{proofs.Common.refl, specs.Arc.arc_value}
use Rattle.ct_query.specs.Views.{action_of}
use Rattle.ct_statement.proofs.Sights.{sight_after, kept_is, one_more}
use Rattle.ct_statement.proofs.advancing.advance.Goals as goal

pub returns-in-Ok-reached-clause-sight : goal.returns-in-Ok-reached-clause-sight
returns-in-Ok-reached-clause-sight c = λ words is after.
    let s = c.args.sight in
    sight_after words s _ (action_of c.args.action) c.args.step refl (one_more _ _ _ c.args.action c.provided.ensures.items c.push_reserved.ensures.items)
    c.in-Ok-reached.ensures.tables c.in-Ok-reached.ensures.global
    (kept_is arc_value s.kept _ c.in-Ok.other c.args.step.kept c.in-Ok.ensures.world c.unwrap_or-kept.ensures) is after
