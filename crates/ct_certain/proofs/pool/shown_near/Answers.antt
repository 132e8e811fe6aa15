use Rattle.std.{proofs.Common.{sym, subst, ◌∙◌}, specs.Prelude.IfSome}
use Rattle.ct_certain.{specs.{Answered.IsWithinGlobal, Own.IsShownBy}, proofs.Short.near_shows}
use Rattle.ct_certain.proofs.pool.shown_near.Goals as goal

pub returns-in_ok-world-in-Some : goal.returns-in_ok-world-in-Some
returns-in_ok-world-in-Some c =
    let words = c.args.words.now in
    let row = c.args.row.now in
    let is = subst (λ o. IfSome o (IsWithinGlobal words c.args.global)) c.in-Some.is c.requires.pool.near in
    let holds = sym (c.holds.ensures words c.in-Some.near.world is.known.worths c.requires.asked.condition) ∙ c.if-holds.true in
    subst (IsShownBy words c.args.global row) (sym c.in_ok-world-in-Some.ensures) (near_shows words c.args.global row c.in-Some.near is holds)
