use Rattle.std.{proofs.Common.{◌+◌, ap, arith, refl, sym, subst}, specs.Prelude.Some}
use Rattle.ct_arena.specs.Seen.{Seen}
use Rattle.ct_condition.specs.Writes.{charge}
use Rattle.ct_keeper.specs.declared.catalogue.Offer.{Offer}
use Rattle.ct_transaction.{specs.Answers.is_full, specs.Bounded.{Makes, nothing}, proofs.Bounded.{commit_makes, offer_charged}}
use Rattle.ct_word.proofs.Prefixes.{prefix_same}
use Rattle.ct_transaction.{specs.Prepared.wanting_memory, specs.Sessions.state_of, proofs.Called.called, proofs.Offered.{is_begun, is_offer}}
use Rattle.ct_transaction.{proofs.Opened.open_grows, proofs.Whole.{replied_answers, replied_seen, left_open}}
use Rattle.ct_parse.specs.declared.tree.Statement.TheVariants as tree
use Rattle.ct_transaction.proofs.committing.offered.Goals as goal

pub returns-in_default-clause-executes : goal.returns-in_default-clause-executes
returns-in_default-clause-executes g c = c.refused.ensures.executes tree.Commit wanting_memory

pub commit-pass-requires-clause-offer : goal.commit-pass-requires-clause-offer
commit-pass-requires-clause-offer g c =
    let o = c.args.transaction in
    is_offer c.args.session.pass o.sight c.args.changes o.reads (record { base = 0; reads = o.reads; changes = c.args.changes; kept = Some c.in-Ok.kept }) (is_begun c.args.session.pass.words o c.args.changes c.requires.begun c.requires.session.open_is) c.in-Ok.ensures

pub returns-clause-session : goal.returns-clause-session
returns-clause-session g c =
    let pass = c.args.session.pass in
    let o = c.args.transaction in
    let after = c.commit-pass.result.0 in
    let k = called g.N.Site.log.cap pass pass after (prefix_same pass.words) refl c.words-words.ensures.numbered c.words-words.ensures.numbered c.commit-pass.ensures.longer c.commit-pass.ensures.session c.words-now.ensures.numbered c.words-now.ensures.room in
    c.carrying.ensures.session (record {
      seen_is = replied_seen g.N.Site.log.cap pass.words pass c.args.session.seen o.sight.version c.requires.session.seen_is c.requires.session.open_is.sight.within after k
          (record { base = o.sight.version; reads = o.reads; changes = c.args.changes; kept = Some c.in-Ok.kept }) c.commit-pass.result.1 c.commit-pass.ensures.outcome c.replied-at.result.0 c.replied-at.ensures.version;
      open_is = left_open after.words o (open_grows pass.words after.words c.commit-pass.ensures.longer c.words-now.ensures.formed o c.requires.session.open_is)
          c.commit-pass.result.1 c.open_after-left.result c.open_after-left.ensures;
    })

pub returns-clause-executes : goal.returns-clause-executes
returns-clause-executes g c =
    let N = g.N.Site.log.cap in
    let pass = c.args.session.pass in
    let o = c.args.transaction in
    let b = is_begun pass.words o c.args.changes c.requires.begun c.requires.session.open_is in
    let after = c.commit-pass.result.0 in
    let k = called N pass pass after (prefix_same pass.words) refl c.words-words.ensures.numbered c.words-words.ensures.numbered c.commit-pass.ensures.longer c.commit-pass.ensures.session c.words-now.ensures.numbered c.words-now.ensures.room in
    c.carrying.ensures.executes N (state_of pass c.args.session.seen c.args.session.fresh (Some o)) pass.words tree.Commit c.replied-at.result.1 (λ x reads.
    replied_answers N pass c.args.session.seen c.args.session.fresh o c.requires.session.open_is tree.Commit refl x reads c.args.changes b after k
    (record { base = o.sight.version; reads = o.reads; changes = c.args.changes; kept = Some c.in-Ok.kept }) refl refl refl
    c.commit-pass.result.1 c.commit-pass.ensures.outcome c.replied-at.result.0 c.replied-at.result.1 c.open_after-left.result c.replied-at.ensures.version c.replied-at.ensures.reply c.open_after-left.ensures)

pub returns-in_default-clause-makes : goal.returns-in_default-clause-makes
returns-in_default-clause-makes g c =
    let pass = ap (λ (p : Seen). p.made) c.refused.ensures.pass in
    let room = ap charge c.refused.ensures.full in
    nothing (omega (arith, pass, room))

pub returns-clause-makes : goal.returns-clause-makes
returns-clause-makes g c =
    let pass = c.args.session.pass in
    let o = c.args.transaction in
    let after = c.commit-pass.result.0 in
    let offer : Offer = record { base = o.sight.version; reads = o.reads; changes = c.args.changes; kept = Some c.in-Ok.kept } in
    let said = c.replied-at.result.1 in
    let few = offer_charged after.words pass offer c.commit-pass.result.1 after.made c.commit-pass.ensures.made c.commit-pass.ensures.fewer c.args.session.seen o.sight.version said c.replied-at.ensures.reply in
    subst (λ (p : Seen). Makes (state_of pass c.args.session.seen c.args.session.fresh (Some o)) p.words tree.Commit pass.made (p.made + charge (is_full said))) (sym c.carrying.ensures.pass)
    (commit_makes pass o c.requires.session.open_is offer c.requires.begun after c.commit-pass.ensures.longer c.args.session.seen c.args.session.fresh tree.Commit (after.made + charge (is_full said)) refl few)
