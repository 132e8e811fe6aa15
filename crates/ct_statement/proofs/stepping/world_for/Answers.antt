use Rattle.std.{proofs.Common.{[], ◌∷◌, subst}, specs.Prelude.IfSome}
use Rattle.ct_near.specs.Near.{IsRepairedNear}
use Rattle.ct_statement.proofs.Worlds.{world_made}
use Rattle.ct_statement.proofs.stepping.world_for.Goals as goal

pub returns-in-Some-clause-ok : goal.returns-in-Some-clause-ok
returns-in-Some-clause-ok c =
    let made = subst (λ o. IfSome o (λ w. IsRepairedNear c.args.words.now (c.args.global ∷ c.args.own ∷ []) c.args.kept.now w)) c.in-Some.is c.in_ok-world.ensures.near in
    world_made c.args.words.now c.args.global c.args.own c.args.place c.args.kept.now c.in-Some.world c.requires.both made
