use Rattle.std.proofs.Common.{ap, arith}
use Rattle.ct_condition.specs.Writes.{charge}
use Rattle.ct_transaction.{specs.Bounded.nothing, proofs.Bounded.misplaced_room}
use Rattle.ct_transaction.{proofs.Ordered.misplaced_executes, proofs.Replies.proceeds_same}
use Rattle.ct_transaction.proofs.orders.refused_here.Goals as goal

pub returns-clause-executes : goal.returns-clause-executes
returns-clause-executes g c = λ st misplaced.
    let cap = g.N.Site.log.cap in
    let s = c.args.session in
    misplaced_executes cap s.pass s.seen s.fresh (proceeds_same cap s.pass.session s.pass.words c.words-words.ensures.room) s.transaction st c.args.why misplaced

pub returns-clause-makes : goal.returns-clause-makes
returns-clause-makes g c = λ st misplaced.
    let s = c.args.session in
    let room = ap charge (misplaced_room s.seen s.transaction st c.args.why misplaced) in
    nothing (omega (arith, room))
