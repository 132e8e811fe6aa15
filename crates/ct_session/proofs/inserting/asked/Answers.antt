use Rattle.std.proofs.Common.{ap, arith, refl}
use Rattle.ct_word.proofs.Prefixes.{prefix_same}
use Rattle.ct_condition.specs.Writes.{charge}
use Rattle.ct_query.specs.Views.{action_of}
use Rattle.ct_query.specs.Plain as plain
use Rattle.ct_session.{specs.Offering.idle, proofs.Again.rows_literal, proofs.Asked.{offer_asked, want_asked}, proofs.Outside.refused_on, proofs.StillKnown.{known_stays, nothing_known, seen_longer}}
use Rattle.ct_session.proofs.inserting.asked.Goals as goal

pub literal_offer-offering-requires-clause-found : goal.literal_offer-offering-requires-clause-found
literal_offer-offering-requires-clause-found g c = (c.args.statement.now, c.in-Ok.ensures.found)

pub literal_offer-offering-requires-clause-literal : goal.literal_offer-offering-requires-clause-literal
literal_offer-offering-requires-clause-literal g c = rows_literal (plain.Act (action_of c.in-Ok.action)) c.in-Ok.ensures.rows

pub returns-in-Err-clause-known : goal.returns-in-Err-clause-known
returns-in-Err-clause-known g c = nothing_known c.args.pass.now.words c.args.known.now c.requires.known

pub returns-in-Ok-offering-clause-known : goal.returns-in-Ok-offering-clause-known
returns-in-Ok-offering-clause-known g c =
    let begun = c.args.pass.now.words in
    let now = c.literal_offer-offering.new.pass.words in
    known_stays begun now (seen_longer begun now c.literal_offer-offering.ensures.longer c.words-now.ensures.formed) c.note.new.self (c.note.ensures.known begun c.requires.sees (nothing_known begun c.args.known.now c.requires.known))

pub returns-in-Err-offering-clause-known : goal.returns-in-Err-offering-clause-known
returns-in-Err-offering-clause-known g c =
    let begun = c.args.pass.now.words in
    let now = c.literal_offer-offering.new.pass.words in
    known_stays begun now (seen_longer begun now c.literal_offer-offering.ensures.longer c.words-now.ensures.formed) c.note.new.self (c.note.ensures.known begun c.requires.sees (nothing_known begun c.args.known.now c.requires.known))

pub returns-in-Err-clause-asks : goal.returns-in-Err-clause-asks
returns-in-Err-clause-asks g c =
    let pass = c.args.pass.now in
    let room = ap charge c.in-Err.ensures.room in
    record {
      ok = tt;
      err = refused_on pass pass (prefix_same pass.words) refl c.args.sight c.requires.sees.sight.within c.requires.sees.none c.args.fresh c.args.statement.now g.N.Site.log.cap c.in-Err.why c.in-Err.ensures.err;
      readies = idle (omega (arith, room));
      unasked = λ is. refl;
    }

pub returns-in-Ok-offering-clause-asks : goal.returns-in-Ok-offering-clause-asks
returns-in-Ok-offering-clause-asks g c =
    let now = c.literal_offer-offering in
    let made = c.in-Ok-offering in
    offer_asked g.N.Site.log.cap c.args.pass.now now.new.pass now.ensures.longer now.ensures.kept c.args.sight c.requires.sees c.args.fresh c.args.statement.now (plain.Act (action_of c.in-Ok.action)) c.in-Ok.ensures.resolved
    made.offering made.ensures.base (made.ensures.ok c.args.statement.now c.in-Ok.ensures.found) made.ensures.made

pub returns-in-Err-offering-clause-asks : goal.returns-in-Err-offering-clause-asks
returns-in-Err-offering-clause-asks g c =
    let now = c.literal_offer-offering in
    let made = c.in-Err-offering in
    want_asked g.N.Site.log.cap c.args.pass.now now.new.pass now.ensures.longer now.ensures.kept c.args.sight c.requires.sees c.args.fresh c.args.statement.now (plain.Act (action_of c.in-Ok.action)) c.in-Ok.ensures.resolved
    made.why made.ensures.want (made.ensures.err c.args.statement.now c.in-Ok.ensures.found) made.ensures.made
