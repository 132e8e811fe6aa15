use Rattle.std.{proofs.Common.{arith, refl, true}, specs.Prelude.Some}
use Rattle.ct_query.specs.Views.{action_of}
use Rattle.ct_statement.{specs.Proposals.listed, proofs.Sights.sight_grows}
use Rattle.ct_transaction.proofs.Stepped.{proposed_there, change_prepared, change_unmet}
use Rattle.ct_transaction.proofs.preparing.change_within.Goals as goal

pub propose-requires : goal.propose-requires
propose-requires g c = record { sight = c.requires.asks.sight; list = c.requires.list; fits = c.requires.asks.fits; written = c.requires.asks.writes }

pub step_of-step-requires-clause-sight : goal.step_of-step-requires-clause-sight
step_of-step-requires-clause-sight g c = sight_grows c.args.pass.now.words c.propose.new.pass.words c.propose.ensures.writes.longer c.args.sight.now c.words.ensures.formed c.requires.asks.sight

pub step_of-step-requires-clause-proposal : goal.step_of-step-requires-clause-proposal
step_of-step-requires-clause-proposal g c =
    let asks = c.requires.asks in
    let made = c.in-Ok.ensures in
    (listed c.args.pass.now.words c.args.list, proposed_there g.N.Site.log.cap c.args.pass.now c.propose.new.pass c.propose.ensures.writes.longer c.propose.ensures.writes.kept c.args.sight.now asks.sight.within c.args.list c.args.fresh (action_of c.args.action) made.left c.in-Ok.proposal made.action made.fresh made.proposes)

pub returns-in-Err : goal.returns-in-Err
returns-in-Err g c =
    let most = c.in-Err.ensures.left in
    record { longer = c.propose.ensures.writes.longer; kept = c.propose.ensures.writes.kept; made = omega (arith, most); ok = tt; steps = tt; err = c.in-Err.ensures.err }

pub returns-in-Ok-step : goal.returns-in-Ok-step
returns-in-Ok-step g c =
    let asks = c.requires.asks in
    let made = c.in-Ok.ensures in
    let now = c.step_of-step in
    change_prepared g.N.Site.log.cap c.args.pass.now c.propose.new.pass c.propose.ensures.writes.longer c.propose.ensures.writes.kept c.args.sight.now asks.sight.within c.args.list c.args.fresh (action_of c.args.action) made.left c.in-Ok.proposal made.action made.fresh made.proposes
    true now.new.pass now.ensures.writes.longer now.ensures.writes.kept (Some c.in-Ok-step.step) c.in-Ok-step.ensures.step refl c.in-Ok-step.ensures.writes.made

pub returns-in-Err-step : goal.returns-in-Err-step
returns-in-Err-step g c =
    let asks = c.requires.asks in
    let made = c.in-Ok.ensures in
    let now = c.step_of-step in
    change_unmet g.N.Site.log.cap c.args.pass.now c.propose.new.pass c.propose.ensures.writes.longer c.propose.ensures.writes.kept c.args.sight.now asks.sight.within c.args.list c.args.fresh (action_of c.args.action) made.left c.in-Ok.proposal made.action made.fresh made.proposes
    true now.new.pass now.ensures.writes.longer now.ensures.writes.kept c.in-Err-step.why c.in-Err-step.ensures.err c.in-Err-step.ensures.writes.made
