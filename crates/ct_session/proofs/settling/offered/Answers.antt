use Rattle.std.{proofs.Common.{◌+◌, ap, refl, sym, subst, ◌∙◌}, specs.Prelude.None}
use Rattle.ct_word.proofs.Prefixes.{prefix_same}
use Rattle.ct_statement.{specs.Sight.IsSight, proofs.Sights.sight_grows}
use Rattle.ct_arena.specs.Seen.{Seen}
use Rattle.ct_condition.specs.Writes.{charge}
use Rattle.ct_transaction.{specs.Answers.{is_full, is_unasked}, specs.Bounded.Makes, specs.Sessions.state_of, proofs.Bounded.offer_charged, proofs.Called.called}
use Rattle.ct_session.{proofs.Bounded.alone_makes, proofs.Acted.{ready_seen, ready_executes}, proofs.Unasked.{never_both, outcome_asked}}
use Rattle.ct_session.proofs.settling.offered.Goals as goal

pub returns-clause-done : goal.returns-clause-done
returns-clause-done g c = λ first st began ready readies.
    let N = g.N.Site.log.cap in
    let s = c.args.session in
    let pass = s.pass in
    let o = c.args.offering in
    let after = c.commit-pass.result.0 in
    let said = c.replied-at.result.1 in
    let k = called N pass pass after (prefix_same pass.words) refl c.words-words.ensures.numbered c.words-words.ensures.numbered c.commit-pass.ensures.longer c.commit-pass.ensures.session c.words-now.ensures.numbered c.words-now.ensures.room in
    let call = called N first pass after began.longer began.kept began.numbered c.words-words.ensures.numbered c.commit-pass.ensures.longer c.commit-pass.ensures.session c.words-now.ensures.numbered c.words-now.ensures.room in
    let few = offer_charged after.words pass o.offer c.commit-pass.result.1 after.made c.commit-pass.ensures.made c.commit-pass.ensures.fewer s.seen o.offer.base said c.replied-at.ensures.reply in
    record {
      session = c.carrying.ensures.session (record {
        seen_is = ready_seen N pass s.seen s.fresh o st ready c.requires.seen after k c.commit-pass.result.1 c.commit-pass.ensures.outcome c.replied-at.result.0 c.replied-at.ensures.version;
        open_is = tt;
      });
      makes = subst (λ (p : Seen). Makes (state_of first s.seen s.fresh None) p.words st first.made (p.made + charge (is_full said))) (sym c.carrying.ensures.pass)
          (alone_makes pass s.fresh o st ready after c.commit-pass.ensures.longer first s.seen c.requires.seen began.kept (after.made + charge (is_full said)) few readies);
      unasked = never_both (is_unasked said) (ap is_unasked c.replied-at.ensures.reply ∙ outcome_asked s.seen o.offer.base c.commit-pass.result.1);
      executes = c.carrying.ensures.executes N (state_of first s.seen s.fresh None) first.words st said
          (ready_executes N pass s.seen s.fresh o st ready c.requires.seen first began after call c.commit-pass.result.1 c.commit-pass.ensures.outcome
          c.replied-at.result.0 c.fresh_after-after.result said c.replied-at.ensures.version c.fresh_after-after.ensures c.replied-at.ensures.reply);
    }

pub returns-clause-stays : goal.returns-clause-stays
returns-clause-stays g c = λ s is.
    subst (λ p. IsSight p.words s) (sym c.carrying.ensures.pass) (sight_grows c.args.session.pass.words c.commit-pass.result.0.words c.commit-pass.ensures.longer s c.words-now.ensures.formed is)
