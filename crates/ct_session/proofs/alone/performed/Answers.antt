use Rattle.std.proofs.Common.{false, rules, [], refl, sym, subst}
use Rattle.ct_statement.{specs.Sight.{actions_before, history_of}, proofs.Sights.sight_grows}
use Rattle.ct_query.{specs.Reads.{action_reads, reads_of}, specs.Views.{action_of, statement_of}}
use Rattle.ct_transaction.specs.Prepared.{IsPreparedFor, needs_step, unmet, wanting_memory}
use Rattle.ct_session.{specs.Offering.IsReady, proofs.Ready.{its_reads, ready_to_offer}, proofs.Outside.{prepared_on, refused_on, answered_on}, proofs.Unasked.unmet_unnamed}
use Rattle.ct_session.specs.declared.settling.Ready.TheVariants as ready
use Rattle.ct_transaction.specs.declared.preparing.Prepared.TheVariants as prepared
use Rattle.ct_session.proofs.alone.performed.Goals as goal

pub perform_alone-prepared-requires : goal.perform_alone-prepared-requires
perform_alone-prepared-requires g c =
    let found = c.requires.resolved.1 in
    (search rules, record { sight = c.requires.sees.sight; fits = found.fits; writes = found.writes; plain = found.plain })

pub returns-in-Ok-Answer-clause-ok : goal.returns-in-Ok-Answer-clause-ok
returns-in-Ok-Answer-clause-ok g c = λ st is.
    let begun = c.args.pass.now in
    let now = c.perform_alone-prepared.new.pass in
    let s = c.args.sight.now in
    let done = c.in-Ok-Answer in
    let reads = reads_of (statement_of c.args.found) in (
      reads,
      answered_on begun now done.ensures.longer done.ensures.kept s c.requires.sees.sight.within c.requires.sees.none c.args.fresh st done.answered reads (record {
        asked = statement_of c.args.found;
        resolves = is.resolves;
        reads_are = refl;
        prepared = subst (λ p. IsPreparedFor now.words (history_of begun.words s) (actions_before s) [] c.args.fresh s (statement_of c.args.found) p) done.field-0-is done.ensures.ok;
      }),
    )

pub returns-in-Ok-offering_of-clause-ok : goal.returns-in-Ok-offering_of-clause-ok
returns-in-Ok-offering_of-clause-ok g c = λ st is.
    let begun = c.args.pass.now in
    let now = c.perform_alone-prepared.new.pass in
    let s = c.args.sight.now in
    let sees = c.requires.sees in
    let done = c.in-Ok-Change in
    let reads = action_reads (action_of done.proposal.action) in
    let is_prepared : IsPreparedFor now.words (history_of begun.words s) (actions_before s) [] c.args.fresh s (statement_of c.args.found) (prepared.Change done.proposal done.step) =
    subst (λ p. IsPreparedFor now.words (history_of begun.words s) (actions_before s) [] c.args.fresh s (statement_of c.args.found) p) done.field-0-is done.ensures.ok in
    subst (λ o. IsReady now c.args.fresh s.version st (ready.Offer o)) (sym c.in-Ok-offering_of.ensures) (
      refl,
      ready_to_offer now c.args.fresh s (sight_grows begun.words now.words done.ensures.longer s c.words-now.ensures.formed sees.sight) sees.none st done.proposal done.step reads
          (prepared_on begun now done.ensures.longer done.ensures.kept s sees.sight.within sees.none c.args.fresh st (prepared.Change done.proposal done.step) reads (record {
            asked = statement_of c.args.found;
            resolves = is.resolves;
            reads_are = its_reads now.words (history_of begun.words s) (actions_before s) [] c.args.fresh s (statement_of c.args.found) done.proposal done.step is_prepared;
            prepared = is_prepared;
          })) (subst (needs_step false) done.field-0-is done.ensures.steps) (record { base = s.version; reads = reads; changes = done.proposal.changes; kept = c.in-Ok.kept }) c.in-Ok.ensures,
    )

pub returns-in_default-clause-err : goal.returns-in_default-clause-err
returns-in_default-clause-err g c = λ st is. wanting_memory

pub returns-in-Err-offering_of-clause-err : goal.returns-in-Err-offering_of-clause-err
returns-in-Err-offering_of-clause-err g c = λ st is. wanting_memory

pub returns-in-Err-clause-err : goal.returns-in-Err-clause-err
returns-in-Err-clause-err g c = λ st is.
    let why = c.in-Err.why in
    let done = c.in-Err.ensures in
    refused_on c.args.pass.now c.perform_alone-prepared.new.pass done.longer done.kept c.args.sight.now c.requires.sees.sight.within c.requires.sees.none c.args.fresh st g.N.Site.log.cap why
    (unmet why (record { asked = statement_of c.args.found; resolves = is.resolves; unmet = done.err }))

pub returns-in-Err-clause-unnamed : goal.returns-in-Err-clause-unnamed
returns-in-Err-clause-unnamed g c =
    let s = c.args.sight.now in
    unmet_unnamed (history_of c.args.pass.now.words s) (actions_before s) g.N.Site.log.cap c.perform_alone-prepared.new.pass.words (statement_of c.args.found) c.in-Err.why c.in-Err.ensures.err
