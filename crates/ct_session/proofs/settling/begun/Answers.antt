use Rattle.std.{proofs.Common.{ap, arith, refl, ◌∙◌}, specs.Prelude.None, proofs.lemmas.Result.IfOk-at_ok}
use Rattle.ct_word.{specs.Reading.commits_of, proofs.Prefixes.commits_prefix}
use Rattle.ct_arena.{specs.Seen.Seen, specs.declared.tally.Tally.Tally}
use Rattle.ct_condition.specs.Writes.{charge}
use Rattle.ct_keeper.specs.Catalogue.{IsNewest}
use Rattle.ct_transaction.{specs.Answers.is_unasked, specs.Bounded.nothing, specs.Sessions.state_of, proofs.Going.{prefix_short, version_within}, proofs.Ordered.{memory_carried, tally_kept}, proofs.Replies.proceeds}
use Rattle.ct_session.proofs.Unasked.{never_both}
use Rattle.ct_session.proofs.settling.begun.Goals as goal

pub returns-in_default-clause-refused : goal.returns-in_default-clause-refused
returns-in_default-clause-refused g c = λ st.
    let N = g.N.Site.log.cap in
    let s = c.args.session in
    let now = c.begin-pass.result.0 in
    let kept = tally_kept now s.pass c.begin-pass.ensures.pass in
    let known = version_within s.pass.words now.words c.begin-pass.ensures.longer s.seen c.requires.seen in
    let made = ap (λ (t : Tally). t.made) c.begin-pass.ensures.pass in
    let pass = ap (λ (p : Seen). p.made) c.refusal.ensures.pass in
    let room = ap charge c.refusal.ensures.full in
    record {
      session = c.refusal.ensures.session (record { seen_is = omega (arith, known); open_is = tt });
      makes = nothing (omega (arith, made, pass, room));
      unasked = never_both (is_unasked c.refusal.result.1) c.refusal.ensures.unasked;
      executes = c.refusal.ensures.executes N (state_of s.pass s.seen s.fresh None) s.pass.words st
          (memory_carried N s.pass now s.seen s.fresh None None st (proceeds N s.pass now c.begin-pass.ensures.longer kept c.words-begun.ensures.room c.words-words.ensures.numbered c.words-begun.ensures.numbered) kept refl);
    }

pub returns-clause-begins : goal.returns-clause-begins
returns-clause-begins g c =
    let s = c.args.session in
    let now = c.begin-pass.result.0 in
    let newest = c.of.ensures.version ∙ (IfOk-at_ok (IsNewest now.words) c.in-Ok.is c.begin-pass.ensures.snapshot).version in
    let short = prefix_short (commits_of s.pass.words) (commits_of now.words) (commits_prefix s.pass.words now.words c.begin-pass.ensures.longer) in
    record {
      longer = c.begin-pass.ensures.longer;
      kept = tally_kept now s.pass c.begin-pass.ensures.pass;
      numbered = c.words-words.ensures.numbered;
      all = omega (arith, short, newest);
    }

pub returns-clause-sees : goal.returns-clause-sees
returns-clause-sees g c =
    let now = c.begin-pass.result.0 in
    record { sight = c.of.ensures.sight now.words (IfOk-at_ok (IsNewest now.words) c.in-Ok.is c.begin-pass.ensures.snapshot); none = c.of.ensures.none }

pub returns-clause-made : goal.returns-clause-made
returns-clause-made g c = ap (λ (t : Tally). t.made) c.begin-pass.ensures.pass
