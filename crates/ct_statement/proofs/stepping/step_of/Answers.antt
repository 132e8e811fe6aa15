use Rattle.std.{proofs.Common.{subst, sym}, specs.{Arc.arc_value, Prelude.IsTrue}}
use Rattle.ct_word.{specs.Condition.holds_at, specs.Reading.condition_at}
use Rattle.ct_query.specs.Views.{action_of}
use Rattle.ct_condition.specs.Writes.{PassWrites}
use Rattle.ct_statement.{specs.Narrowing.{CanNarrow, IsKeptFor, IsUnkept}, proofs.Stepped.{can_narrow, kept_holds, step_made, unkept_unmet}}
use Rattle.ct_statement.{specs.Sight.{actions_before, history_of}, proofs.Narrow.proposed_narrow}
use Rattle.ct_statement.proofs.Making.{unkept_room}
use Rattle.ct_statement.proofs.stepping.step_of.Goals as goal

pub kept_for-requires-clause-narrows : goal.kept_for-requires-clause-narrows
kept_for-requires-clause-narrows g c =
    let new = c.effect_for.new.pass.words in
    let s = c.args.sight.now in
    subst (λ ws. CanNarrow ws s.global c.in-Ok.applied.0 c.in-Ok.applied.1) (sym c.words-words.ensures.words)
    (can_narrow c.args.pass.now.words new c.in-Ok.ensures.writes.longer c.words-words.ensures.formed s c.requires.sight (action_of c.args.proposal.now.action) c.in-Ok.applied.0 c.in-Ok.applied.1 c.in-Ok.ensures.is)

pub kept_for-requires-clause-kept : goal.kept_for-requires-clause-kept
kept_for-requires-clause-kept g c =
    let new = c.effect_for.new.pass.words in
    let s = c.args.sight.now in
    subst (λ ws. IsTrue (holds_at c.deref.result.now (condition_at ws s.global))) (sym c.words-words.ensures.words)
    (subst (λ v. IsTrue (holds_at v (condition_at new s.global))) (sym c.deref.ensures)
    (kept_holds c.args.pass.now.words new c.in-Ok.ensures.writes.longer c.words-words.ensures.formed s c.requires.sight (action_of c.args.proposal.now.action)))

pub returns-in-Ok-kept_for-clause-step : goal.returns-in-Ok-kept_for-clause-step
returns-in-Ok-kept_for-clause-step g c =
    let new = c.effect_for.new.pass.words in
    let s = c.args.sight.now in
    let w = c.in-Ok.applied.0 in
    let e = c.in-Ok.applied.1 in
    let next = c.in-Ok-kept_for.kept in
    let proposal = c.requires.proposal.1 in
    let h = history_of c.args.pass.now.words s in
    let few = proposed_narrow c.args.pass.now.words new c.in-Ok.ensures.writes.longer c.words-words.ensures.small h (actions_before s) c.requires.proposal.0 (action_of c.args.proposal.now.action) c.args.proposal.now.changes proposal in
    step_made c.args.pass.now.words new c.in-Ok.ensures.writes.longer c.words-words.ensures.formed s c.requires.sight (action_of c.args.proposal.now.action) w e c.in-Ok.ensures.is c.in-Ok.ensures.fits
    proposal.written few next
    (subst (λ ws. IsKeptFor ws e (arc_value s.kept) next) c.words-words.ensures.words (subst (λ kept. IsKeptFor c.words-words.result.now e kept next) c.deref.ensures c.in-Ok-kept_for.ensures.ok))

pub returns-clause-err : goal.returns-clause-err
returns-clause-err g c =
    let new = c.effect_for.new.pass.words in
    let s = c.args.sight.now in
    let w = c.in-Ok.applied.0 in
    let e = c.in-Ok.applied.1 in
    let why = c.in-Err-kept_for.why in
    unkept_unmet c.args.pass.now.words new c.in-Ok.ensures.writes.longer c.words-words.ensures.formed s c.requires.sight g.N.Site.log.cap (action_of c.args.proposal.now.action) w e c.in-Ok.ensures.is
    why (subst (λ ws. IsUnkept ws e why) c.words-words.ensures.words c.in-Err-kept_for.ensures.err)

pub returns-clause-writes : goal.returns-clause-writes
returns-clause-writes g c =
    let unwritten = unkept_room c.words-words.result.now c.in-Ok.applied.1 c.in-Err-kept_for.why c.in-Err-kept_for.ensures.err in
    subst (PassWrites g.N.Site.log.cap c.args.pass.now c.effect_for.new.pass _) (sym unwritten) c.in-Ok.ensures.writes
