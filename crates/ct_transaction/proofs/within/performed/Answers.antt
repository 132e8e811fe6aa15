use Rattle.std.{proofs.Common.{◌≡◌, ◌≤◌, ◌+◌, ℕ, true, List, length, ap, sym, subst, ◌∙◌, arith}, specs.Prelude.{Option, Some, Ok}}
use Rattle.ct_condition.specs.Writes.{charge, kept_of}
use Rattle.ct_arena.{specs.Counts.AreNumbered, specs.Seen.Seen}
use Rattle.ct_query.{specs.Patterns.count, specs.Plain.PlainStatement, specs.Schema.schema, specs.Views.statement_of}
use Rattle.ct_resolve.specs.Statements.{resolved}
use Rattle.ct_statement.specs.Making.{says_full, widths_in}
use Rattle.ct_transaction.{specs.Answers.is_full, specs.Bounded.{Makes, nothing, Performs}, proofs.Bounded.{makes_inside, performs_less}}
use Rattle.ct_parse.specs.declared.tree.Statement.{Statement}
use Rattle.ct_transcript.specs.declared.reply.Reply.{Reply}
use Rattle.ct_statement.{specs.declared.stepping.Step.Step, specs.Proposals.listed, specs.Sight.{actions_before, history_of}}
use Rattle.ct_transaction.{specs.declared.preparing.Prepared.Prepared, specs.declared.state.Open.Open, specs.Prepared.{IsPreparedFor, unmet, wanting_memory}, specs.Executes.Executes}
use Rattle.ct_transaction.{specs.Sessions.{IsSession, state_of}, specs.State.SessionState, proofs.Opened.{session_grows, prepared_later, refused_later}}
use Rattle.ct_transaction.{proofs.Ordered.executes_later, proofs.Replies.proceeds}
use mathlib.Core.List.{IsPrefix}
use Rattle.ct_transaction.specs.declared.preparing.Prepared.TheVariants as prepared
use Rattle.ct_transaction.proofs.within.performed.Goals as goal

-- what is executed over the words that came with what was prepared is executed so from the first ones
later : (N : ℕ) (pass new : Seen) → IsPrefix pass.words new.words → kept_of new ≡ kept_of pass → length new.words ≤ N → AreNumbered pass.session pass.mine pass.words → AreNumbered new.session new.mine new.words
    → (seen fresh : ℕ) (o : Open) (next : SessionState) (now : List ℕ) (st : Statement) (r : Reply)
    → Executes N (state_of new seen fresh (Some o)) next new.words now st r → Executes N (state_of pass seen fresh (Some o)) next pass.words now st r
later N pass new longer kept room old counted seen fresh o next now st r e = executes_later N pass new seen fresh o next now st r (proceeds N pass new longer kept room old counted) kept e

-- what was made at what is seen, of a statement whose reply makes nothing more
made_inside : (pass now : Seen) → IsPrefix pass.words now.words → (seen fresh : ℕ) (o : Open) → IsSession pass.words seen (Some o) → (st : Statement) (asked : PlainStatement)
    → resolved (schema (history_of pass.words o.sight) (actions_before o.sight)) pass.session fresh st ≡ Ok asked → (made : ℕ)
    → Performs true (count (history_of pass.words o.sight) (actions_before o.sight)) (widths_in (schema (history_of pass.words o.sight) (actions_before o.sight)).tables) asked pass.made made → (after : Seen) → after ≡ now → (charged : ℕ) → now.made + charged ≤ made
    → Makes (state_of pass seen fresh (Some o)) after.words st pass.made (after.made + charged)
made_inside pass now longer seen fresh o k st asked res made few after same charged le =
    subst (λ (p : Seen). Makes (state_of pass seen fresh (Some o)) p.words st pass.made (p.made + charged)) (sym same)
    (makes_inside pass now longer seen fresh o k.open_is.sight st asked res (now.made + charged)
    (performs_less true (count (history_of pass.words o.sight) (actions_before o.sight)) (widths_in (schema (history_of pass.words o.sight) (actions_before o.sight)).tables) asked pass.made made (now.made + charged) le few))

pub returns-in_default-clause-executes : goal.returns-in_default-clause-executes
returns-in_default-clause-executes g c = λ st is. c.refused.ensures.executes st wanting_memory

pub returns-in_default-clause-makes : goal.returns-in_default-clause-makes
returns-in_default-clause-makes g c = λ st is.
    let pass = ap (λ (p : Seen). p.made) c.refused.ensures.pass in
    let room = ap charge c.refused.ensures.full in
    nothing (omega (arith, pass, room))

pub perform_within-prepared-requires-clause-asks : goal.perform_within-prepared-requires-clause-asks
perform_within-prepared-requires-clause-asks g c κs within =
    let found = c.requires.resolved.1 in
    record { sight = c.requires.session.open_is.sight; fits = found.fits; writes = found.writes; plain = found.plain }

pub answer-requires : goal.answer-requires
answer-requires g c =
    let s = c.args.session in
    record { session = session_grows s.pass.words c.perform_within-prepared.new.pass.words c.in-Ok-Answer.ensures.longer c.words-after.ensures.formed s.seen (Some c.args.transaction) c.requires.session }

pub change-requires-clause-session : goal.change-requires-clause-session
change-requires-clause-session g c =
    let s = c.args.session in
    session_grows s.pass.words c.perform_within-prepared.new.pass.words c.in-Ok-Change.ensures.longer c.words-after.ensures.formed s.seen (Some c.args.transaction) c.requires.session

pub change-requires-clause-prepared : goal.change-requires-clause-prepared
change-requires-clause-prepared g c =
    let s = c.args.session in
    let new = c.perform_within-prepared.new.pass in
    let o = c.args.transaction in
    let done = c.in-Ok-Change in (
      c.requires.resolved.0,
      prepared_later s.pass new done.ensures.longer done.ensures.kept o.sight c.requires.session.open_is.sight.within o.changes c.requires.session.open_is.list s.fresh c.requires.resolved.0 (prepared.Change done.proposal (Some c.in-Some.step)) c.in-Ok.reads
          (record {
            asked = statement_of c.args.found;
            resolves = c.requires.resolved.1.resolves;
            reads_are = c.in-Ok.ensures.exactly;
            prepared = subst (λ (p : Prepared). IsPreparedFor new.words (history_of s.pass.words o.sight) (actions_before o.sight) (listed s.pass.words o.changes) s.fresh o.sight (statement_of c.args.found) p) (done.field-0-is ∙ ap (λ (step : Option Step). prepared.Change done.proposal step) c.in-Some.is) done.ensures.ok;
          }),
    )

pub refused-requires-in-Err : goal.refused-requires-in-Err
refused-requires-in-Err g c =
    let s = c.args.session in
    record { session = session_grows s.pass.words c.perform_within-prepared.new.pass.words c.in-Err.ensures.longer c.words-after.ensures.formed s.seen (Some c.args.transaction) c.requires.session }

pub returns-in-Ok-Answer-clause-executes : goal.returns-in-Ok-Answer-clause-executes
returns-in-Ok-Answer-clause-executes g c = λ st is.
    let s = c.args.session in
    let new = c.perform_within-prepared.new.pass in
    let o = c.args.transaction in
    let done = c.in-Ok-Answer in
    later g.N.Site.log.cap s.pass new done.ensures.longer done.ensures.kept c.words-after.ensures.room c.words-before.ensures.numbered c.words-after.ensures.numbered s.seen s.fresh o _ _ st c.answer.result.1
    (c.answer.ensures.executes st (prepared_later s.pass new done.ensures.longer done.ensures.kept o.sight c.requires.session.open_is.sight.within o.changes c.requires.session.open_is.list s.fresh st (prepared.Answer done.answered) c.in-Ok.reads
    (record {
      asked = statement_of c.args.found;
      resolves = is;
      reads_are = c.in-Ok.ensures.exactly;
      prepared = subst (λ (p : Prepared). IsPreparedFor new.words (history_of s.pass.words o.sight) (actions_before o.sight) (listed s.pass.words o.changes) s.fresh o.sight (statement_of c.args.found) p) done.field-0-is done.ensures.ok;
    })))

pub returns-in-Some-clause-executes : goal.returns-in-Some-clause-executes
returns-in-Some-clause-executes g c = λ st is.
    let s = c.args.session in
    let new = c.perform_within-prepared.new.pass in
    let o = c.args.transaction in
    let done = c.in-Ok-Change in
    later g.N.Site.log.cap s.pass new done.ensures.longer done.ensures.kept c.words-after.ensures.room c.words-before.ensures.numbered c.words-after.ensures.numbered s.seen s.fresh o _ _ st c.change.result.1
    (c.change.ensures.executes st (prepared_later s.pass new done.ensures.longer done.ensures.kept o.sight c.requires.session.open_is.sight.within o.changes c.requires.session.open_is.list s.fresh st (prepared.Change done.proposal (Some c.in-Some.step)) c.in-Ok.reads
    (record {
      asked = statement_of c.args.found;
      resolves = is;
      reads_are = c.in-Ok.ensures.exactly;
      prepared = subst (λ (p : Prepared). IsPreparedFor new.words (history_of s.pass.words o.sight) (actions_before o.sight) (listed s.pass.words o.changes) s.fresh o.sight (statement_of c.args.found) p) (done.field-0-is ∙ ap (λ (step : Option Step). prepared.Change done.proposal step) c.in-Some.is) done.ensures.ok;
    })))

pub returns-in-Err-clause-executes : goal.returns-in-Err-clause-executes
returns-in-Err-clause-executes g c = λ st is.
    let s = c.args.session in
    let new = c.perform_within-prepared.new.pass in
    let o = c.args.transaction in
    let done = c.in-Err in
    later g.N.Site.log.cap s.pass new done.ensures.longer done.ensures.kept c.words-after.ensures.room c.words-before.ensures.numbered c.words-after.ensures.numbered s.seen s.fresh o _ _ st c.refused-in-Err.result.1
    (c.refused-in-Err.ensures.executes st (refused_later s.pass new done.ensures.longer done.ensures.kept o.sight c.requires.session.open_is.sight.within o.changes c.requires.session.open_is.list s.fresh st g.N.Site.log.cap done.why
    (unmet done.why (record { asked = statement_of c.args.found; resolves = is; unmet = done.ensures.err }))))

pub returns-in-Ok-Answer-clause-makes : goal.returns-in-Ok-Answer-clause-makes
returns-in-Ok-Answer-clause-makes g c = λ st is.
    let s = c.args.session in
    let new = c.perform_within-prepared.new.pass in
    let done = c.in-Ok-Answer in
    let said = c.answer in
    let room = ap charge said.ensures.room in
    made_inside s.pass new done.ensures.longer s.seen s.fresh c.args.transaction c.requires.session st (statement_of c.args.found) is (new.made + 0) done.ensures.made said.result.0.pass said.ensures.pass (charge (is_full said.result.1)) (omega (arith, room))

pub returns-in-Some-clause-makes : goal.returns-in-Some-clause-makes
returns-in-Some-clause-makes g c = λ st is.
    let s = c.args.session in
    let new = c.perform_within-prepared.new.pass in
    let done = c.in-Ok-Change in
    let said = c.change in
    let room = ap charge said.ensures.room in
    made_inside s.pass new done.ensures.longer s.seen s.fresh c.args.transaction c.requires.session st (statement_of c.args.found) is (new.made + 0) done.ensures.made said.result.0.pass said.ensures.pass (charge (is_full said.result.1)) (omega (arith, room))

pub returns-in-Err-clause-makes : goal.returns-in-Err-clause-makes
returns-in-Err-clause-makes g c = λ st is.
    let s = c.args.session in
    let new = c.perform_within-prepared.new.pass in
    let done = c.in-Err in
    let said = c.refused-in-Err in
    let room = ap charge said.ensures.full in
    made_inside s.pass new done.ensures.longer s.seen s.fresh c.args.transaction c.requires.session st (statement_of c.args.found) is (new.made + charge (says_full done.why)) done.ensures.made said.result.0.pass said.ensures.pass (charge (is_full said.result.1)) (omega (arith, room))
