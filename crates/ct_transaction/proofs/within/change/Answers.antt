use Rattle.std.{proofs.Common.arith, proofs.lemmas.List.length-map, specs.Prelude.Some}
use Rattle.ct_query.specs.Views.{action_of}
use Rattle.ct_statement.{specs.Proposals.listed, specs.Sight.{actions_before, history_of}}
use Rattle.ct_transaction.{specs.Prepared.wanting_memory, specs.Sessions.state_of, proofs.Actions.prepared_action, proofs.Inside.{pending_inside, executes_as}}
use Rattle.ct_transcript.specs.declared.reply.Reply.TheVariants as reply
use Rattle.ct_transaction.proofs.within.change.Goals as goal

pub returns-in_default-clause-executes : goal.returns-in_default-clause-executes
returns-in_default-clause-executes g c = λ st is. c.refused.ensures.executes st wanting_memory

pub returns-in-Ok-clause-session : goal.returns-in-Ok-clause-session
returns-in-Ok-clause-session g c =
    let pass = c.args.session.pass in
    let k = c.requires.session in
    let o = c.args.transaction in
    let asked =
    prepared_action pass.words (history_of pass.words o.sight) (actions_before o.sight) (listed pass.words o.changes) pass.session c.args.session.fresh o.sight c.requires.prepared.0 c.args.proposal (Some c.args.step)
    c.args.reads c.requires.prepared.1 in
    c.carrying.ensures.session (record {
      seen_is = let seen = k.seen_is in let version = k.open_is.sight.within in omega (arith, seen, version);
      open_is = c.in-Ok.ensures.extended pass.words k.open_is asked.change.proposes asked.change.steps;
    })

pub returns-in-Ok-clause-executes : goal.returns-in-Ok-clause-executes
returns-in-Ok-clause-executes g c = λ st is.
    let N = g.N.Site.log.cap in
    let pass = c.args.session.pass in
    let o = c.args.transaction in
    let asked =
    prepared_action pass.words (history_of pass.words o.sight) (actions_before o.sight) (listed pass.words o.changes) pass.session c.args.session.fresh o.sight st c.args.proposal (Some c.args.step)
    c.args.reads is in
    c.carrying.ensures.executes N (state_of pass c.args.session.seen c.args.session.fresh (Some o)) pass.words st (reply.Pending o.sight.version c.in-Some.plus)
    (pending_inside N pass c.args.session.seen c.args.session.fresh o c.requires.session c.words-words.ensures.room st c.args.proposal c.args.step c.args.reads c.in-Ok.next c.in-Some.plus
    (let items = o.sight.actions in omega (arith, length-map items.items action_of, c.in-Some.ensures, c.len.ensures, items.ok.0)) c.in-Ok.ensures.state asked)

pub returns-in-Err-clause-executes : goal.returns-in-Err-clause-executes
returns-in-Err-clause-executes g c = λ st is.
    executes_as g.N.Site.log.cap c.args.session.pass c.args.session.seen c.args.session.fresh c.args.transaction c.in-Err.same _ _ _ _ _ c.in-Err.ensures.state (c.refused-in-Err.ensures.executes st wanting_memory)
