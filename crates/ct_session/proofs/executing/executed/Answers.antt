use Rattle.ct_transaction.{specs.Sessions.state_of, proofs.Replies.proceeds_same}
use Rattle.ct_session.{proofs.Bounded.{makes_bounded, unread_bounded}, proofs.Readings.is_written, proofs.Unasked.closed, proofs.Unread.unread_answers}
use Rattle.ct_session.proofs.executing.executed.Goals as goal

pub placed-done-requires-clause-written : goal.placed-done-requires-clause-written
placed-done-requires-clause-written g c κs within = is_written c.args.text.now c.in-Ok.statement c.in-Ok.ensures.ok

pub returns-clause-answers : goal.returns-clause-answers
returns-clause-answers g c = c.placed-done.ensures.executes c.args.text.now c.in-Ok.ensures.ok

pub returns-in-Err-clause-answers : goal.returns-in-Err-clause-answers
returns-in-Err-clause-answers g c =
    let s = c.args.session in
    let N = g.N.Site.log.cap in
    unread_answers N (state_of s.pass s.seen s.fresh s.transaction) s.pass.words c.args.text.now (proceeds_same N s.pass.session s.pass.words c.words.ensures.room) c.in-Err.why c.in-Err.ensures.fault

pub returns-clause-bounded : goal.returns-clause-bounded
returns-clause-bounded g c =
    let s = c.args.session in
    let after = c.placed-done.result.0 in
    let done = c.placed-done.ensures in
    makes_bounded g.N.Site.log.cap (state_of s.pass s.seen s.fresh s.transaction) (state_of after.pass after.seen after.fresh after.transaction) s.pass.words after.pass.words c.in-Ok.statement c.args.text.now c.placed-done.result.1
    s.pass.made after.pass.made c.in-Ok.ensures.ok (done.executes c.args.text.now c.in-Ok.ensures.ok) (λ none. done.unasked (closed s.transaction none)) done.makes

pub returns-in-Err-clause-bounded : goal.returns-in-Err-clause-bounded
returns-in-Err-clause-bounded g c =
    let s = c.args.session in
    unread_bounded g.N.Site.log.cap (state_of s.pass s.seen s.fresh s.transaction) s.pass.words c.args.text.now s.seen c.in-Err.why s.pass.made c.in-Err.ensures.fault
