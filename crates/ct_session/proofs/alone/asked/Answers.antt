use Rattle.std.{proofs.Common.{ap, arith, refl, rules, sym, subst}, proofs.lemmas.Result.IfErr-weaker}
use Rattle.ct_word.proofs.Prefixes.{prefix_same}
use Rattle.ct_condition.specs.Writes.{charge}
use Rattle.ct_query.specs.Views.{action_of, statement_of}
use Rattle.ct_query.specs.declared.action.Resolved.{Resolved}
use Rattle.ct_query.specs.Plain as plain
use Rattle.ct_statement.specs.Sight.{actions_before, history_of}
use Rattle.ct_transaction.{specs.Answers.is_of_name, specs.Prepared.IsResolved}
use Rattle.ct_session.{specs.Offering.idle, proofs.Asked.{offer_asked, want_asked}, proofs.Bounded.readies_on, proofs.Outside.refused_on, proofs.Unasked.never_both}
use Rattle.ct_session.proofs.alone.asked.Goals as goal

pub literal_offer-requires-clause-found : goal.literal_offer-requires-clause-found
literal_offer-requires-clause-found g c = (
  c.args.statement.now,
  record { sight = c.args.sight; sees = c.requires.sees; base_is = refl; found = subst (λ asked. IsResolved (history_of c.args.pass.now.words c.args.sight) (actions_before c.args.sight) c.args.pass.now.session c.args.fresh c.args.statement.now asked) c.in-Ok-literal_act.ensures.act c.in-Ok.ensures.ok },
)

pub performed-ready-requires : goal.performed-ready-requires
performed-ready-requires g c = (
  search rules,
  (c.requires.sees, (c.args.statement.now, subst (λ (r : Resolved). IsResolved (history_of c.args.pass.now.words c.args.sight) (actions_before c.args.sight) c.args.pass.now.session c.args.fresh c.args.statement.now (statement_of r)) (sym c.in-Err-literal_act.ensures.same) c.in-Ok.ensures.ok)),
)

pub returns-in-Err-clause-asks : goal.returns-in-Err-clause-asks
returns-in-Err-clause-asks g c =
    let pass = c.args.pass.now in
    let room = ap charge c.in-Err.ensures.room in
    record {
      ok = tt;
      err = refused_on pass pass (prefix_same pass.words) refl c.args.sight c.requires.sees.sight.within c.requires.sees.none c.args.fresh c.args.statement.now g.N.Site.log.cap c.in-Err.why c.in-Err.ensures.err;
      readies = idle (omega (arith, room));
      unasked = λ is. refl;
    }

pub returns-in-Ok-literal_offer-clause-asks : goal.returns-in-Ok-literal_offer-clause-asks
returns-in-Ok-literal_offer-clause-asks g c =
    let begun = c.args.pass.now in
    let s = c.args.sight in
    let st = c.args.statement.now in
    let now = c.literal_offer in
    let made = c.in-Ok-literal_offer in
    let found = subst (λ asked. IsResolved (history_of begun.words s) (actions_before s) begun.session c.args.fresh st asked) c.in-Ok-literal_act.ensures.act c.in-Ok.ensures.ok in
    offer_asked g.N.Site.log.cap begun now.new.pass now.ensures.longer now.ensures.kept s c.requires.sees c.args.fresh st (plain.Act (action_of c.in-Ok-literal_act.action)) found
    made.offering made.ensures.base (made.ensures.ok st (record { sight = s; sees = c.requires.sees; base_is = refl; found = found })) made.ensures.made

pub returns-in-Err-literal_offer-clause-asks : goal.returns-in-Err-literal_offer-clause-asks
returns-in-Err-literal_offer-clause-asks g c =
    let begun = c.args.pass.now in
    let s = c.args.sight in
    let st = c.args.statement.now in
    let now = c.literal_offer in
    let made = c.in-Err-literal_offer in
    let found = subst (λ asked. IsResolved (history_of begun.words s) (actions_before s) begun.session c.args.fresh st asked) c.in-Ok-literal_act.ensures.act c.in-Ok.ensures.ok in
    want_asked g.N.Site.log.cap begun now.new.pass now.ensures.longer now.ensures.kept s c.requires.sees c.args.fresh st (plain.Act (action_of c.in-Ok-literal_act.action)) found
    made.why made.ensures.want (made.ensures.err st (record { sight = s; sees = c.requires.sees; base_is = refl; found = found })) made.ensures.made

pub returns-in-Err-literal_act-clause-asks : goal.returns-in-Err-literal_act-clause-asks
returns-in-Err-literal_act-clause-asks g c =
    let begun = c.args.pass.now in
    let s = c.args.sight in
    let st = c.args.statement.now in
    let now = c.performed-ready in
    let found = subst (λ (r : Resolved). IsResolved (history_of begun.words s) (actions_before s) begun.session c.args.fresh st (statement_of r)) (sym c.in-Err-literal_act.ensures.same) c.in-Ok.ensures.ok in
    record {
      ok = now.ensures.ok st found;
      err = now.ensures.err st found;
      readies = readies_on begun now.new.pass now.ensures.longer now.ensures.kept s c.requires.sees c.args.fresh st (statement_of c.in-Err-literal_act.found) found begun.made _ now.ensures.made;
      unasked = IfErr-weaker now.result _ _ (λ why e. never_both (is_of_name why) e) now.ensures.unnamed;
    }
