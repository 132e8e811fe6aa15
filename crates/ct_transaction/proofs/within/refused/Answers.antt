use Rattle.std.{proofs.Common.length, specs.Prelude.Some}
use Rattle.ct_word.specs.Reading.{commits_of}
use Rattle.ct_transaction.{specs.Sessions.state_of, proofs.Inside.refused_inside, proofs.Opened.standing_within}
use Rattle.ct_transaction.proofs.within.refused.Goals as goal

pub returns-clause-session : goal.returns-clause-session
returns-clause-session g c =
    let k = c.requires.session in
    c.refusal.ensures.session (record {
      seen_is = standing_within c.args.session.seen c.args.transaction.sight.version (length (commits_of c.args.session.pass.words)) c.args.why k.seen_is k.open_is.sight.within;
      open_is = k.open_is;
    })

pub returns-clause-executes : goal.returns-clause-executes
returns-clause-executes g c = λ st is.
    let N = g.N.Site.log.cap in
    let pass = c.args.session.pass in
    let o = c.args.transaction in
    c.refusal.ensures.executes N (state_of pass c.args.session.seen c.args.session.fresh (Some o)) pass.words st
    (refused_inside N pass c.args.session.seen c.args.session.fresh o c.requires.session c.words-words.ensures.room st c.args.why is)
