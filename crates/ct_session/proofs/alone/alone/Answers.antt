use Rattle.std.proofs.Common.{arith, subst}
use Rattle.ct_transaction.proofs.Going.{version_within}
use Rattle.ct_session.{specs.Doing.IsAskedFor, proofs.Asked.{asked_taken, done_as}, proofs.Outside.begins_on}
use Rattle.ct_session.proofs.alone.alone.Goals as goal

pub settled-requires-clause-seen : goal.settled-requires-clause-seen
settled-requires-clause-seen g c =
    let low = c.requires.seen in
    let all = c.in-Ok.ensures.begins.all in
    let same = c.in-Ok.ensures.seen in
    omega (arith, low, all, same)

pub settled-requires-clause-within : goal.settled-requires-clause-within
settled-requires-clause-within g c =
    let b = c.in-Ok.begun in
    version_within b.0.pass.words c.asked-ready.new.pass.words c.asked-ready.ensures.longer b.1.version c.in-Ok.ensures.sees.sight.within

pub settled-requires-clause-takes : goal.settled-requires-clause-takes
settled-requires-clause-takes g c =
    let b = c.in-Ok.begun in
    asked_taken g.N.Site.log.cap b.0.pass.made c.asked-ready.new.pass b.0.fresh b.1.version c.args.statement.now c.asked-ready.result c.asked-ready.ensures.asks

pub returns : goal.returns
returns g c =
    let N = g.N.Site.log.cap in
    let s = c.args.session in
    let st = c.args.statement.now in
    let b = c.in-Ok.begun in
    let begun = b.0.pass in
    let at = b.1.version in
    let now = c.asked-ready.new.pass in
    let after = c.settled.result.0 in
    record {
      done = done_as N s.pass s.seen b.0.seen s.fresh b.0.fresh c.in-Ok.ensures.seen c.in-Ok.ensures.fresh st after.pass after.seen after.fresh after.transaction c.settled.result.1
          (c.settled.ensures.done s.pass st (begins_on s.pass begun now at at c.in-Ok.ensures.begins c.asked-ready.ensures.longer c.asked-ready.ensures.kept (omega arith))
          (subst (λ m. IsAskedFor N m now b.0.fresh at st c.asked-ready.result) c.in-Ok.ensures.made c.asked-ready.ensures.asks));
    }

pub returns-in-Err : goal.returns-in-Err
returns-in-Err g c = record { done = c.in-Err.ensures.refused c.args.statement.now }
