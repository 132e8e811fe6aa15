use Rattle.std.{proofs.Common.{rules, ◌+◌, ap, arith, sym, subst, ◌∙◌}, specs.Prelude.{Option}}
use Rattle.ct_arena.specs.Seen.{Seen}
use Rattle.ct_condition.specs.Writes.{charge}
use Rattle.ct_transaction.{specs.Answers.is_full, specs.Bounded.{Makes, nothing}, specs.Executes.Executes, specs.Sessions.{IsSession, state_of}, specs.declared.state.Open.Open}
use Rattle.ct_transaction.proofs.within.within.Goals as goal

pub resolved_at-requires-clause-sight : goal.resolved_at-requires-clause-sight
resolved_at-requires-clause-sight g c =
    let s = c.args.session in
    (subst (λ (t : Option Open). IsSession s.pass.words s.seen t) (sym c.take.ensures.value ∙ c.in-Some.is) c.requires.session).open_is.sight

pub performed-requires : goal.performed-requires
performed-requires g c =
    let s = c.args.session in
    (search rules, (subst (λ (t : Option Open). IsSession s.pass.words s.seen t) (sym c.take.ensures.value ∙ c.in-Some.is) c.requires.session, (c.args.statement.now, c.in-Ok.ensures.ok)))

pub refused-requires : goal.refused-requires
refused-requires g c =
    let s = c.args.session in
    record { session = subst (λ (t : Option Open). IsSession s.pass.words s.seen t) (sym c.take.ensures.value ∙ c.in-Some.is) c.requires.session }

pub returns-in-Ok-clause-executes : goal.returns-in-Ok-clause-executes
returns-in-Ok-clause-executes g c =
    let s = c.args.session in
    let after = c.performed.result.0 in
    subst (λ (p : Option Open). Executes g.N.Site.log.cap (state_of s.pass s.seen s.fresh p) (state_of after.pass after.seen after.fresh after.transaction) s.pass.words after.pass.words c.args.statement.now c.performed.result.1)
    (sym (sym c.take.ensures.value ∙ c.in-Some.is)) (c.performed.ensures.executes c.args.statement.now c.in-Ok.ensures.ok.resolves)

pub returns-in-Err-clause-executes : goal.returns-in-Err-clause-executes
returns-in-Err-clause-executes g c =
    let s = c.args.session in
    let after = c.refused.result.0 in
    subst (λ (p : Option Open). Executes g.N.Site.log.cap (state_of s.pass s.seen s.fresh p) (state_of after.pass after.seen after.fresh after.transaction) s.pass.words after.pass.words c.args.statement.now c.refused.result.1)
    (sym (sym c.take.ensures.value ∙ c.in-Some.is)) (c.refused.ensures.executes c.args.statement.now c.in-Err.ensures.err)

pub returns-in-Ok-clause-makes : goal.returns-in-Ok-clause-makes
returns-in-Ok-clause-makes g c =
    let s = c.args.session in
    let after = c.performed.result.0 in
    subst (λ (p : Option Open). Makes (state_of s.pass s.seen s.fresh p) after.pass.words c.args.statement.now s.pass.made (after.pass.made + charge (is_full c.performed.result.1))) (sym (sym c.take.ensures.value ∙ c.in-Some.is))
    (c.performed.ensures.makes c.args.statement.now c.in-Ok.ensures.ok.resolves)

pub returns-in-Err-clause-makes : goal.returns-in-Err-clause-makes
returns-in-Err-clause-makes g c =
    let pass = ap (λ (p : Seen). p.made) c.refused.ensures.pass in
    let room = ap charge (c.refused.ensures.full ∙ c.in-Err.ensures.room) in
    nothing (omega (arith, pass, room))
