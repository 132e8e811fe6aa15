use Rattle.std.proofs.Common.{None, arith, ap, refl, sym, subst}
use Rattle.ct_word.proofs.Prefixes.{prefix_same}
use Rattle.ct_query.{specs.Reads.action_reads, specs.Views.action_of}
use Rattle.ct_transaction.specs.Prepared.{wanting_memory}
use Rattle.ct_session.{specs.declared.offering.Offering.Offering, specs.Offering.IsReadyToOffer}
use Rattle.ct_session.proofs.Literal.{literal_encodes, literal_ready, literal_refused}
use Rattle.ct_session.proofs.offering.literal_offer.Goals as goal

pub propose_literal-proposed-requires-clause-encodable : goal.propose_literal-proposed-requires-clause-encodable
propose_literal-proposed-requires-clause-encodable g c =
    let pass = c.args.pass.now in
    let found = c.requires.found in
    literal_encodes pass pass (prefix_same pass.words) refl c.args.fresh c.args.base found.0 (action_of c.args.action) found.1 c.requires.literal

pub returns-in-Ok-offering_of-clause-ok : goal.returns-in-Ok-offering_of-clause-ok
returns-in-Ok-offering_of-clause-ok g c = λ st found.
    let pass = c.args.pass.now in
    let made = c.propose_literal-proposed in
    let p = c.in-Ok.ensures in
    let reads = action_reads (action_of c.in-Ok.proposal.action) in
    subst (λ o. IsReadyToOffer made.new.pass c.args.fresh o st) (sym c.in-Ok-offering_of.ensures)
    (literal_ready pass made.new.pass made.ensures.writes.longer made.ensures.writes.kept c.args.fresh c.args.base st (action_of c.args.action) found c.requires.literal
    c.words-now.ensures.formed c.in-Ok.proposal reads (record { base = c.args.base; reads = reads; changes = c.in-Ok.proposal.changes; kept = None }) refl (ap action_reads p.action) p.action p.fresh
    (p.proposes found.sight found.sees.sight found.found.fits))

pub returns-in-Ok-offering_of-clause-base : goal.returns-in-Ok-offering_of-clause-base
returns-in-Ok-offering_of-clause-base g c = ap (λ (o : Offering). o.offer.base) c.in-Ok-offering_of.ensures

pub returns-in-Err-clause-err : goal.returns-in-Err-clause-err
returns-in-Err-clause-err g c = λ st found.
    let pass = c.args.pass.now in
    let made = c.propose_literal-proposed in
    literal_refused pass made.new.pass made.ensures.writes.longer made.ensures.writes.kept c.args.fresh c.args.base st (action_of c.args.action) found c.requires.literal g.N.Site.log.cap c.in-Err.why c.in-Err.ensures.err

pub returns-in-Err-offering_of-clause-err : goal.returns-in-Err-offering_of-clause-err
returns-in-Err-offering_of-clause-err g c = λ st found. wanting_memory

pub returns-in-Ok-offering_of-clause-made : goal.returns-in-Ok-offering_of-clause-made
returns-in-Ok-offering_of-clause-made g c = λ counts widths. let most = c.in-Ok.ensures.left counts widths in omega (arith, most)

pub returns-in-Err-offering_of-clause-made : goal.returns-in-Err-offering_of-clause-made
returns-in-Err-offering_of-clause-made g c = λ counts widths. let most = c.in-Ok.ensures.left counts widths in omega (arith, most)

pub returns-in-Err-clause-made : goal.returns-in-Err-clause-made
returns-in-Err-clause-made g c = λ counts widths. let most = c.in-Err.ensures.left counts widths in omega (arith, most)
