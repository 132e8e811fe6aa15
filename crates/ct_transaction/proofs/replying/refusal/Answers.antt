use Rattle.std.proofs.Common.{max, sym, subst}
use Rattle.ct_transaction.proofs.Bounded.{refused_full}
use Rattle.ct_transaction.{specs.Executes.Executes, specs.Sessions.{IsSession, state_of}, specs.State.carried}
use Rattle.ct_transcript.specs.declared.reply.Reply.TheVariants as reply
use Rattle.ct_transaction.proofs.replying.refusal.Goals as goal

pub returns-clause-session : goal.returns-clause-session
returns-clause-session g c = λ k.
    c.carrying.ensures.session (subst (λ n. IsSession c.args.session.pass.words (max c.args.session.seen n) c.args.session.transaction) (sym c.standing-at.ensures) k)

pub returns-clause-executes : goal.returns-clause-executes
returns-clause-executes g c = λ room s words st e.
    let before = state_of c.args.session.pass c.args.session.seen c.args.session.fresh c.args.session.transaction in
    c.carrying.ensures.executes room s words st (reply.Refused c.standing-at.result c.args.why)
    (subst (λ n. Executes room s (carried n before) words c.args.session.pass.words st (reply.Refused n c.args.why)) (sym c.standing-at.ensures) e)

pub returns-clause-full : goal.returns-clause-full
returns-clause-full g c = refused_full c.standing-at.result c.args.why
