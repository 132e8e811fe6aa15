use Rattle.std.{proofs.Common.arith, specs.Prelude.Some, proofs.lemmas.List.length-map}
use Rattle.ct_query.specs.Views.{action_of}
use Rattle.ct_transaction.{specs.Prepared.wanting_memory, specs.Sessions.state_of, proofs.Inside.{answered_inside, executes_as}}
use Rattle.ct_transaction.proofs.within.answer.Goals as goal

pub returns-in_default-clause-executes : goal.returns-in_default-clause-executes
returns-in_default-clause-executes g c = λ st is. c.refused.ensures.executes st wanting_memory

pub returns-in-Ok-after_query-clause-session : goal.returns-in-Ok-after_query-clause-session
returns-in-Ok-after_query-clause-session g c =
    let k = c.requires.session in
    c.carrying.ensures.session (record {
      seen_is = let seen = k.seen_is in let version = k.open_is.sight.within in omega (arith, seen, version);
      open_is = c.in-Ok-after_query.ensures.extended c.args.session.pass.words k.open_is;
    })

pub returns-in-Ok-after_query-clause-executes : goal.returns-in-Ok-after_query-clause-executes
returns-in-Ok-after_query-clause-executes g c = λ st is.
    let N = g.N.Site.log.cap in
    let pass = c.args.session.pass in
    let o = c.args.transaction in
    c.carrying.ensures.executes N (state_of pass c.args.session.seen c.args.session.fresh (Some o)) pass.words st c.reply_of.result
    (answered_inside N pass c.args.session.seen c.args.session.fresh o c.requires.session c.words-words.ensures.room st c.args.answered c.args.reads c.in-Ok-after_query.next c.in-Ok.plus
    (let items = o.sight.actions in omega (arith, length-map items.items action_of, c.in-Ok.ensures, c.len.ensures, items.ok.0)) c.in-Ok-after_query.ensures.state is c.reply_of.result c.reply_of.ensures)

pub returns-in-Err-clause-executes : goal.returns-in-Err-clause-executes
returns-in-Err-clause-executes g c = λ st is.
    executes_as g.N.Site.log.cap c.args.session.pass c.args.session.seen c.args.session.fresh c.args.transaction c.in-Err.same _ _ _ _ _ c.in-Err.ensures.state (c.refused-in-Err.ensures.executes st wanting_memory)
