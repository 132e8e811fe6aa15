use Rattle.std.{proofs.Common.{◌≡◌, suc, map, ap, sym, subst, ◌∙◌}, specs.Prelude.All}
use Rattle.ct_word.{specs.Reading.commits_of, proofs.Prefixes.prefix_of_prefix}
use Rattle.ct_arena.specs.Seen.{tally_of, pass_of}
use Rattle.ct_keeper.{specs.Conflicting.told_or, specs.Offers.{changes_in, IsOffer, BecomesOf}, specs.Served.IsOutcome, proofs.Judging.{told_err, told_later}}
use Rattle.ct_keeper.{proofs.Entering.{offer_grows, same_list}, proofs.Walking.{all_written_later, all_written_same}}
use Rattle.ct_keeper.proofs.Serving.{read_on, outcome_is, made_within}
use Rattle.ct_history.specs.Written.{IsWritten, plain_written}
use Rattle.ct_keeper.specs.declared.error.KeeperError.TheVariants as fault
use Rattle.ct_keeper.proofs.server.Server.commit.Goals as goal

pub judge-pass-requires-clause-offer : goal.judge-pass-requires-clause-offer
judge-pass-requires-clause-offer g c =
    let pass = c.args.pass in
    let now = c.locked-keeper.new.pass in
    let came = c.locked-keeper.ensures in
    subst (λ p. IsOffer p c.args.offer.now) (sym (read_on pass now came.session came.made came.mine))
    (offer_grows pass now.words came.longer came.formed c.args.offer.now c.requires.offer)

pub returns-clause-outcome : goal.returns-clause-outcome
returns-clause-outcome g c =
    let cap = g.N.Site.log.cap in
    let pass = c.args.pass in
    let offer = c.args.offer.now in
    let now = c.locked-keeper.new.pass in
    let came = c.locked-keeper.ensures in
    let old = c.deref_mut-2.result.now in
    let new = c.judge-pass.new.self in
    let after = c.judge-pass.result.0 in
    let v = c.judge-pass.result.1 in
    let told : told_or (commits_of after.words) offer.base v ≡ c.outcome_of-outcome.result = ap (λ ws. told_or (commits_of ws) offer.base v) (sym c.words-2.ensures.words) ∙ sym c.outcome_of-outcome.ensures in
    subst (IsOutcome cap pass after offer) told
    (outcome_is pass now.words came.longer came.formed offer c.requires.offer old new after c.judge-pass.ensures.words c.judge-pass.ensures.known cap (told_or (commits_of after.words) offer.base v)
    (told_later cap old new (pass_of (tally_of pass) now.words) after offer after.words c.judge-pass.ensures.words v
    (subst (λ p. BecomesOf cap old new p after offer (told_or (commits_of old.words) offer.base v)) (read_on pass now came.session came.made came.mine) c.judge-pass.ensures.verdict)))

pub returns-clause-longer : goal.returns-clause-longer
returns-clause-longer g c = prefix_of_prefix c.args.pass.words c.locked-keeper.new.pass.words c.judge-pass.result.0.words c.locked-keeper.ensures.longer c.judge-pass.ensures.longer

pub returns-clause-made : goal.returns-clause-made
returns-clause-made g c =
    let came = c.locked-keeper.ensures in
    let old = c.deref_mut-2.result.now in
    made_within g.N.Site.log.cap c.args.pass c.locked-keeper.new.pass came.session came.made came.mine came.longer came.formed c.args.offer.now c.requires.offer old c.judge-pass.new.self c.judge-pass.result.0
    c.judge-pass.ensures.words (told_or (commits_of old.words) c.args.offer.now.base c.judge-pass.result.1) c.judge-pass.ensures.verdict c.judge-pass.result.0.made c.judge-pass.ensures.made

pub returns-clause-fewer : goal.returns-clause-fewer
returns-clause-fewer g c = λ refused.
    let came = c.locked-keeper.ensures in
    let old = c.deref_mut-2.result.now in
    made_within g.N.Site.log.cap c.args.pass c.locked-keeper.new.pass came.session came.made came.mine came.longer came.formed c.args.offer.now c.requires.offer old c.judge-pass.new.self c.judge-pass.result.0
    c.judge-pass.ensures.words (told_or (commits_of old.words) c.args.offer.now.base c.judge-pass.result.1) c.judge-pass.ensures.verdict (suc c.judge-pass.result.0.made)
    (c.judge-pass.ensures.fewer (told_err (commits_of c.words-2.result.now) c.args.offer.now.base c.judge-pass.result.1 fault.Full (sym c.outcome_of-outcome.ensures ∙ refused)))

pub judge-pass-requires-clause-written : goal.judge-pass-requires-clause-written
judge-pass-requires-clause-written g c =
    let now = c.locked-keeper.new.pass in
    let placed : All (IsWritten c.args.pass.words) c.in-Ok.changes = subst (λ ws. All (IsWritten ws) c.in-Ok.changes) c.words.ensures.words c.in-Ok.ensures.placed in
    subst (All (IsWritten now.words)) (sym c.as_slice-changes.ensures) (all_written_later c.args.pass.words now.words c.locked-keeper.ensures.longer c.in-Ok.changes placed)

pub judge-pass-requires-clause-changes : goal.judge-pass-requires-clause-changes
judge-pass-requires-clause-changes g c =
    let pass = c.args.pass in
    let now = c.locked-keeper.new.pass in
    let came = c.locked-keeper.ensures in
    let placed : All (IsWritten pass.words) c.in-Ok.changes = subst (λ ws. All (IsWritten ws) c.in-Ok.changes) c.words.ensures.words c.in-Ok.ensures.placed in
    let same : map (plain_written pass.words) c.in-Ok.changes ≡ changes_in pass.words c.args.offer.now =
    subst (λ ws. map (plain_written ws) c.in-Ok.changes ≡ changes_in ws c.args.offer.now) c.words.ensures.words c.in-Ok.ensures.same in
    ap (map (plain_written now.words)) c.as_slice-changes.ensures ∙ all_written_same pass.words now.words came.longer c.in-Ok.changes placed ∙ same ∙ sym (same_list pass now.words came.longer came.formed c.args.offer.now c.requires.offer)
