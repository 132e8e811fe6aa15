use Rattle.std.{proofs.Common.{List, ap, refl, sym, subst, arith}, specs.Prelude.{None, IfOk, option_map}}
use Rattle.ct_query.specs.declared.action.Read.{Read}
use Rattle.ct_arena.{specs.Seen.Seen, specs.declared.tally.Tally.Tally}
use Rattle.ct_condition.specs.Writes.{charge}
use Rattle.ct_keeper.specs.Catalogue.{IsNewest}
use Rattle.ct_transaction.specs.Bounded.{nothing}
use Rattle.ct_transaction.{specs.Sessions.{IsOpen, state_of, transaction_of}, proofs.Going.version_within, proofs.Opened.open_begun, proofs.Replies.proceeds}
use Rattle.ct_transaction.proofs.Ordered.{begun_executes, memory_carried, tally_kept, none_open}
use Rattle.ct_parse.specs.declared.tree.Statement.TheVariants as tree
use Rattle.ct_transcript.specs.declared.reply.Reply.TheVariants as reply
use Rattle.ct_transaction.proofs.orders.begin.Goals as goal

pub returns-in_default-clause-session : goal.returns-in_default-clause-session
returns-in_default-clause-session g c =
    let s = c.args.session in
    let known = version_within s.pass.words c.begin-pass.result.0.words c.begin-pass.ensures.longer s.seen c.requires.session.seen_is in
    c.refusal.ensures.session (record { seen_is = omega (arith, known); open_is = tt })

pub returns-in_default-clause-executes : goal.returns-in_default-clause-executes
returns-in_default-clause-executes g c =
    let cap = g.N.Site.log.cap in
    let s = c.args.session in
    let pass = c.begin-pass.result.0 in
    let kept = tally_kept pass s.pass c.begin-pass.ensures.pass in
    c.refusal.ensures.executes cap (state_of s.pass s.seen s.fresh s.transaction) s.pass.words tree.Begin
    (memory_carried cap s.pass pass s.seen s.fresh s.transaction None tree.Begin
    (proceeds cap s.pass pass c.begin-pass.ensures.longer kept c.words-words.ensures.room c.words.ensures.numbered c.words-words.ensures.numbered) kept (ap (option_map transaction_of) (sym (none_open s.transaction c.requires.none))))

pub returns-clause-session : goal.returns-clause-session
returns-clause-session g c =
    let s = c.args.session in
    let words = c.begin-pass.result.0.words in
    let newest = subst (λ r. IfOk r (IsNewest words)) c.in-Ok.is c.begin-pass.ensures.snapshot in
    let known = version_within s.pass.words words c.begin-pass.ensures.longer s.seen c.requires.session.seen_is in
    c.carrying.ensures.session (record {
      seen_is = let version = newest.version in omega (arith, known, version);
      open_is = subst (λ (rs : List Read). IsOpen words (record { sight = c.of.result; changes = None; reads = rs })) (sym c.new.ensures)
          (open_begun words c.of.result (c.of.ensures.sight words newest) c.of.ensures.none);
    })

pub returns-clause-executes : goal.returns-clause-executes
returns-clause-executes g c =
    let cap = g.N.Site.log.cap in
    let s = c.args.session in
    let pass = c.begin-pass.result.0 in
    let kept = tally_kept pass s.pass c.begin-pass.ensures.pass in
    let newest = subst (λ r. IfOk r (IsNewest pass.words)) c.in-Ok.is c.begin-pass.ensures.snapshot in
    let at = c.in-Ok.snapshot.version in
    c.carrying.ensures.executes cap (state_of s.pass s.seen s.fresh s.transaction) s.pass.words tree.Begin (reply.Begun at)
    (begun_executes cap s.pass pass s.seen s.fresh at s.transaction (record { sight = c.of.result; changes = None; reads = c.new.result }) tree.Begin c.requires.none refl
    (proceeds cap s.pass pass c.begin-pass.ensures.longer kept c.words-words.ensures.room c.words.ensures.numbered c.words-words.ensures.numbered) kept
    c.requires.session.seen_is newest.version c.of.ensures.version c.of.ensures.none c.new.ensures)

pub returns-in_default-clause-makes : goal.returns-in_default-clause-makes
returns-in_default-clause-makes g c =
    let made = ap (λ (t : Tally). t.made) c.begin-pass.ensures.pass in
    let pass = ap (λ (p : Seen). p.made) c.refusal.ensures.pass in
    let room = ap charge c.refusal.ensures.full in
    nothing (omega (arith, made, pass, room))

pub returns-clause-makes : goal.returns-clause-makes
returns-clause-makes g c =
    let made = ap (λ (t : Tally). t.made) c.begin-pass.ensures.pass in
    let pass = ap (λ (p : Seen). p.made) c.carrying.ensures.pass in
    nothing (omega (arith, made, pass))
