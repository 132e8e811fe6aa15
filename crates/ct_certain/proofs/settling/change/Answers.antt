use Rattle.std.{proofs.Common.{[], ◌∷◌, subst}, specs.Prelude.IfSome}
use Rattle.ct_near.specs.Near.{IsRepairedNear}
use Rattle.ct_certain.{specs.Answered.IsNearOwn, proofs.Asking.changed_found}
use Rattle.ct_certain.proofs.settling.change.Goals as goal

pub returns : goal.returns
returns c =
    let words = c.args.words.now in
    let cond = c.args.row.now.cond in
    let near = c.in-Some.near.now.world.now in
    let own = subst (λ o. IfSome o (λ n. IsNearOwn words c.args.global n.now)) c.in-Some.is c.requires.near in
    let made = subst (λ o. IfSome o (λ w. IsRepairedNear words (c.args.global ∷ cond ∷ []) near w)) c.in-Some-2.is c.in_ok-found.ensures.near in
    changed_found words c.args.global near own.own cond c.in-Some-2.found c.in_ok-world.world made c.in_ok-world.ensures.same c.in_ok-world.ensures.tidy
