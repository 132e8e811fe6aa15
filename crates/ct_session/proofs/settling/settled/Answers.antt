use Rattle.std.{proofs.Common.{◌+◌, ap, arith, length, sym, subst, ◌∙◌}, specs.Prelude.{None, IfOk}}
use Rattle.ct_word.specs.Reading.{commits_of}
use Rattle.ct_arena.specs.Seen.{Seen}
use Rattle.ct_condition.specs.Writes.{charge}
use Rattle.ct_statement.{specs.Making.says_full, specs.Sight.IsSight}
use Rattle.ct_transaction.{specs.Answers.{is_full, is_unasked}, specs.Bounded.Makes, specs.Sessions.state_of, proofs.Opened.standing_within}
use Rattle.ct_session.{specs.Doing.{IsAskedFor, IsTaken}, specs.Offering.{IsReady, Readies}, specs.Outcomes.Begins}
use Rattle.ct_session.proofs.{Bounded.{answered_room, readies_less, readies_makes}, Outside.{answered_outside, refused_outside}, Unasked.{answered_asked, never_both}}
use Rattle.ct_session.proofs.settling.settled.Goals as goal

pub offered-requires : goal.offered-requires
offered-requires g c =
    let taken = subst (IsTaken c.args.session.pass c.args.at) c.in-Ok-Offer.field-0-is (subst (λ r. IfOk r (IsTaken c.args.session.pass c.args.at)) c.in-Ok-Offer.is c.requires.takes) in
    let base = taken.0 in
    let seen = c.requires.seen in
    record { few = c.requires.few; seen = omega (arith, base, seen); takes = taken.1 }

pub returns-in-Ok-Answer-clause-done : goal.returns-in-Ok-Answer-clause-done
returns-in-Ok-Answer-clause-done g c = λ first st began asks.
    let N = g.N.Site.log.cap in
    let s = c.args.session in
    let now = s.pass in
    let at = c.args.at in
    let given = c.in-Ok-Answer.answered in
    let asked = subst (λ r. IsAskedFor N first.made now s.fresh at st r) c.in-Ok-Answer.is asks in
    let answer = subst (IsReady now s.fresh at st) c.in-Ok-Answer.field-0-is asked.ok in
    let said = c.reply_of.result in
    let room = ap charge (ap is_full c.reply_of.ensures ∙ answered_room at 0 given) in
    let seen = c.requires.seen in
    let within = c.requires.within in
    record {
      session = c.carrying.ensures.session (record { seen_is = omega (arith, seen, within); open_is = tt });
      makes = subst (λ (p : Seen). Makes (state_of first s.seen s.fresh None) p.words st first.made (p.made + charge (is_full said))) (sym c.carrying.ensures.pass)
          (readies_makes first s.seen s.fresh now at st (now.made + charge (is_full said)) seen within began.kept
          (readies_less now.words at now.session s.fresh st first.made (now.made + 0) (now.made + charge (is_full said)) (omega (arith, room)) asked.readies));
      unasked = never_both (is_unasked said) (ap is_unasked c.reply_of.ensures ∙ answered_asked at 0 given);
      executes = c.carrying.ensures.executes N (state_of first s.seen s.fresh None) first.words st said
          (answered_outside N first now s.seen s.fresh at began c.words-words.ensures.room c.words-words.ensures.numbered within seen st given answer.0 answer.1 said c.reply_of.ensures);
    }

pub returns-in-Ok-Answer-clause-stays : goal.returns-in-Ok-Answer-clause-stays
returns-in-Ok-Answer-clause-stays g c = λ s is. subst (λ p. IsSight p.words s) (sym c.carrying.ensures.pass) is

pub returns-in-Ok-Offer-clause-done : goal.returns-in-Ok-Offer-clause-done
returns-in-Ok-Offer-clause-done g c = λ first st began asks.
    let s = c.args.session in
    let now = s.pass in
    let asked = subst (λ r. IsAskedFor g.N.Site.log.cap first.made now s.fresh c.args.at st r) c.in-Ok-Offer.is asks in
    let offer = subst (IsReady now s.fresh c.args.at st) c.in-Ok-Offer.field-0-is asked.ok in
    c.offered.ensures.done first st (subst (Begins first now) (sym offer.0) began) offer.1
    (subst (λ n. Readies now.words n now.session s.fresh st first.made now.made) (sym offer.0) (readies_less now.words c.args.at now.session s.fresh st first.made (now.made + 0) now.made (omega arith) asked.readies))

pub returns-in-Err-clause-done : goal.returns-in-Err-clause-done
returns-in-Err-clause-done g c = λ first st began asks.
    let N = g.N.Site.log.cap in
    let s = c.args.session in
    let now = s.pass in
    let at = c.args.at in
    let why = c.in-Err.why in
    let asked = subst (λ r. IsAskedFor N first.made now s.fresh at st r) c.in-Err.is asks in
    let said = c.refusal.result.1 in
    let room = ap charge c.refusal.ensures.full in
    let seen = c.requires.seen in
    let within = c.requires.within in
    record {
      session = c.refusal.ensures.session (record { seen_is = standing_within s.seen at (length (commits_of now.words)) why (omega (arith, seen, within)) within; open_is = tt });
      makes = subst (λ (p : Seen). Makes (state_of first s.seen s.fresh None) p.words st first.made (p.made + charge (is_full said))) (sym c.refusal.ensures.pass)
          (readies_makes first s.seen s.fresh now at st (now.made + charge (is_full said)) seen within began.kept
          (readies_less now.words at now.session s.fresh st first.made (now.made + charge (says_full why)) (now.made + charge (is_full said)) (omega (arith, room)) asked.readies));
      unasked = λ is. ap (λ (p : Seen). p.made) c.refusal.ensures.pass ∙ asked.unasked (sym c.refusal.ensures.unasked ∙ is);
      executes = c.refusal.ensures.executes N (state_of first s.seen s.fresh None) first.words st
          (refused_outside N first now s.seen s.fresh at began c.words-words.ensures.room c.words-words.ensures.numbered within seen st why asked.err);
    }

pub returns-in-Err-clause-stays : goal.returns-in-Err-clause-stays
returns-in-Err-clause-stays g c = λ s is. subst (λ p. IsSight p.words s) (sym c.refusal.ensures.pass) is
