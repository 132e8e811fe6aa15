use Rattle.std.{proofs.Common.{◌≡◌, ◌++◌, ◌∷◌, [], false, ap, subst, sym, ◌∙◌}, specs.Prelude.{Err, IfSome, MatchOption}, proofs.lemmas.Result.err_from_is_err_and}
use Rattle.ct_condition.proofs.Writes.{writes_none, writes_within}
use Rattle.ct_word.specs.Reading.{change_list_at}
use Rattle.ct_query.specs.Views.{action_of}
use Rattle.ct_condition.specs.Writes.{PassWrites}
use Rattle.ct_history.{specs.Written.{IsWritten, plain_written}}
use Rattle.ct_keeper.specs.Effects.{DoesChange, effect_words}
use Rattle.ct_keeper.specs.declared.effects.Effect.{Effect}
use Rattle.ct_statement.{specs.Making.says_full, proofs.Making.unapplied_full, proofs.Stepped.{effect_is, effect_light}}
use Rattle.ct_operators.specs.Refusals as operators
use Rattle.ct_statement.proofs.stepping.effect_for.Goals as goal

pub returns-in-Ok-clause-is : goal.returns-in-Ok-clause-is
returns-in-Ok-clause-is g c =
    let old = c.args.pass.now.words in
    let new = c.effect_of.new.pass.words in
    let s = c.args.sight.now in
    let proposal = c.args.proposal.now in
    let list = c.requires.proposal.0 in
    let p = c.requires.proposal.1 in
    let change = c.in-Some.change in
    let listed = subst (λ ws. change_list_at ws proposal.changes ≡ list ++ p.change ∷ []) (sym c.words.ensures.words) p.list_is in
    let read = subst (λ o. MatchOption o ⊥ (λ x. plain_written c.words.result.now x ≡ p.change)) c.in-Some.is (c.in_ok-change.ensures.last list p.change listed) in
    let placed = subst (λ o. IfSome o (IsWritten c.words.result.now)) c.in-Some.is c.in_ok-change.ensures.placed in
    effect_is old s c.requires.sight (action_of proposal.action) list proposal.changes p change (subst (λ ws. plain_written ws change ≡ p.change) c.words.ensures.words read)
    new c.in-Ok.effect (subst (λ ws. IsWritten ws change) c.words.ensures.words placed) (subst (λ db. DoesChange old new db s.global change c.in-Ok.effect) c.db.ensures c.in-Ok.ensures.does)

pub returns-in-Ok-clause-writes : goal.returns-in-Ok-clause-writes
returns-in-Ok-clause-writes g c =
    let old = c.args.pass.now.words in
    let s = c.args.sight.now in
    let proposal = c.args.proposal.now in
    let list = c.requires.proposal.0 in
    let p = c.requires.proposal.1 in
    let change = c.in-Some.change in
    let listed = subst (λ ws. change_list_at ws proposal.changes ≡ list ++ p.change ∷ []) (sym c.words.ensures.words) p.list_is in
    let read = subst (λ o. MatchOption o ⊥ (λ x. plain_written c.words.result.now x ≡ p.change)) c.in-Some.is (c.in_ok-change.ensures.last list p.change listed) in
    let few = effect_light old s c.requires.sight (action_of proposal.action) list proposal.changes p change (subst (λ ws. plain_written ws change ≡ p.change) c.words.ensures.words read) in
    let writes = subst (λ db. PassWrites g.N.Site.log.cap c.args.pass.now c.effect_of.new.pass (effect_words db (plain_written old change)) false) c.db.ensures c.in-Ok.ensures.writes in
    writes_within _ few writes

pub returns-in-Err-clause-writes : goal.returns-in-Err-clause-writes
returns-in-Err-clause-writes g c =
    let old = c.args.pass.now.words in
    let s = c.args.sight.now in
    let proposal = c.args.proposal.now in
    let list = c.requires.proposal.0 in
    let p = c.requires.proposal.1 in
    let change = c.in-Some.change in
    let listed = subst (λ ws. change_list_at ws proposal.changes ≡ list ++ p.change ∷ []) (sym c.words.ensures.words) p.list_is in
    let read = subst (λ o. MatchOption o ⊥ (λ x. plain_written c.words.result.now x ≡ p.change)) c.in-Some.is (c.in_ok-change.ensures.last list p.change listed) in
    let few = effect_light old s c.requires.sight (action_of proposal.action) list proposal.changes p change (subst (λ ws. plain_written ws change ≡ p.change) c.words.ensures.words read) in
    let refused = ap says_full c.unapplied.ensures ∙ unapplied_full Effect c.in-Err.e in
    let writes = subst (λ db. PassWrites g.N.Site.log.cap c.args.pass.now c.effect_of.new.pass (effect_words db (plain_written old change)) (operators.is_full {T = Effect} (Err c.in-Err.e))) c.db.ensures c.in-Err.ensures.writes in
    subst (PassWrites g.N.Site.log.cap c.args.pass.now c.effect_of.new.pass _) (sym refused) (writes_within _ few writes)

pub returns-in_err-change-clause-writes : goal.returns-in_err-change-clause-writes
returns-in_err-change-clause-writes g c =
    let p = err_from_is_err_and c.from_residual.result c.from_residual.ensures.1 in
    rw (p.1, p.2) (writes_none c.args.pass.now c.words.ensures.formed c.words.ensures.room)
