use Rattle.std.{proofs.Common.{◌+◌, ap, arith, refl, sym, subst, ◌∙◌}, specs.Prelude.{Option, None, IfSome}}
use Rattle.ct_arena.specs.Seen.{Seen}
use Rattle.ct_condition.specs.Writes.{charge}
use Rattle.ct_transaction.{specs.Answers.is_full, specs.Bounded.{Makes, nothing}}
use Rattle.ct_transaction.{specs.Answers.Answers, specs.Executes.Executes, specs.Sessions.{IsOpen, state_of}, specs.State.carried, specs.declared.state.Open.Open, proofs.Whole.not_begun_answers}
use Rattle.ct_transcript.specs.declared.reply.Reply.TheVariants as reply
use Rattle.ct_parse.specs.declared.tree.Statement.TheVariants as tree
use Rattle.ct_transaction.proofs.committing.commit.Goals as goal

pub returns-in-None-clause-executes : goal.returns-in-None-clause-executes
returns-in-None-clause-executes g c =
    let N = g.N.Site.log.cap in
    let s = c.args.session in
    let o = c.in-Some.transaction in
    let base = o.sight.version in
    c.carrying.ensures.executes N (state_of s.pass s.seen s.fresh s.transaction) s.pass.words tree.Commit (reply.Nothing base) (λ x reads.
    subst (λ (t : Option Open). Answers N (state_of s.pass s.seen s.fresh s.transaction) (carried base (state_of s.pass s.seen s.fresh t)) s.pass.words s.pass.words x (reply.Nothing base)) (sym c.take.ensures.after)
    (subst (λ p. Answers N (state_of s.pass s.seen s.fresh p) (carried base (state_of s.pass s.seen s.fresh None)) s.pass.words s.pass.words x (reply.Nothing base)) (sym (sym c.take.ensures.value ∙ c.in-Some.is))
    (not_begun_answers N s.pass s.seen s.fresh o (subst (λ p. IfSome p (IsOpen s.pass.words)) (sym c.take.ensures.value ∙ c.in-Some.is) c.requires.session.open_is) tree.Commit refl x reads
    c.words-words.ensures.room c.in-None.is)))

pub returns-in-Some-changes-clause-executes : goal.returns-in-Some-changes-clause-executes
returns-in-Some-changes-clause-executes g c =
    let s = c.args.session in
    let after = c.offered.result.0 in
    subst (λ p. Executes g.N.Site.log.cap (state_of s.pass s.seen s.fresh p) (state_of after.pass after.seen after.fresh after.transaction) s.pass.words after.pass.words tree.Commit c.offered.result.1)
    (sym (sym c.take.ensures.value ∙ c.in-Some.is)) c.offered.ensures.executes

pub returns-in-None-clause-makes : goal.returns-in-None-clause-makes
returns-in-None-clause-makes g c = let pass = ap (λ (p : Seen). p.made) c.carrying.ensures.pass in nothing (omega (arith, pass))

pub returns-in-Some-changes-clause-makes : goal.returns-in-Some-changes-clause-makes
returns-in-Some-changes-clause-makes g c =
    let s = c.args.session in
    let after = c.offered.result.0 in
    subst (λ p. Makes (state_of s.pass s.seen s.fresh p) after.pass.words tree.Commit s.pass.made (after.pass.made + charge (is_full c.offered.result.1))) (sym (sym c.take.ensures.value ∙ c.in-Some.is)) c.offered.ensures.makes
