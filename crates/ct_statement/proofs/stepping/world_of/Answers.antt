use Rattle.std.{proofs.Common.{subst, ap, ◌∙◌, Ok}, specs.Prelude.IfOk}
use Rattle.ct_decide.specs.Decided.{DecisionNear}
use Rattle.ct_statement.proofs.Worlds.{world_near, world_refuted}
use Rattle.ct_statement.proofs.stepping.world_of.Goals as goal

pub returns-in-Ok-World-clause-ok : goal.returns-in-Ok-World-clause-ok
returns-in-Ok-World-clause-ok c =
    let words = c.args.words.now in
    let kept = c.args.kept.now in
    let is = c.in-Ok-World.is ∙ ap Ok c.in-Ok-World.field-0-is in
    world_near words c.args.place kept c.in-Ok-World.world (subst (λ r. IfOk r (DecisionNear words c.args.place kept)) is c.requires.decided)

pub returns-in-Ok-Refuted-clause-err : goal.returns-in-Ok-Refuted-clause-err
returns-in-Ok-Refuted-clause-err c =
    let words = c.args.words.now in
    let kept = c.args.kept.now in
    let is = c.in-Ok-Refuted.is ∙ ap Ok c.in-Ok-Refuted.field-0-is in
    let refuted = subst (λ r. IfOk r (DecisionNear words c.args.place kept)) is c.requires.decided in
    world_refuted words c.args.place c.in-Ok-Refuted.derivation c.requires.formed (refuted).0
