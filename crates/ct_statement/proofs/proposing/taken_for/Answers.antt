use Rattle.std.proofs.Common.{◌≤◌, false, length, refl, subst, sym}
use Rattle.ct_condition.proofs.Writes.{writes_none}
use Rattle.ct_condition.specs.Writes.{PassWrites}
use Rattle.ct_query.specs.Patterns.{count}
use Rattle.ct_query.specs.Schema.{schema}
use Rattle.ct_query.specs.Views.{action_of, query_of}
use Rattle.ct_statement.{specs.Making.{says_full, taken_rows, taking_words, widths_in}, specs.Sight.{actions_before, history_of}, specs.Unmet.IsUnmet, proofs.Evaluating.few_counted, proofs.Wanting.unasked_action}
use Rattle.ct_query.specs.Plain as plain
use Rattle.ct_statement.proofs.proposing.taken_for.Goals as goal

pub returns-in-Err-clause-err : goal.returns-in-Err-clause-err
returns-in-Err-clause-err g c =
    let h = history_of c.args.pass.now.words c.args.sight.now in
    let before = actions_before c.args.sight.now in
    let new = c.answered.new.pass.words in
    let why = c.in-Err.why in
    subst (λ a. IsUnmet h before g.N.Site.log.cap new (plain.Act (action_of a)) why) (sym c.in-InsertQuery.is)
    (unasked_action h before g.N.Site.log.cap new (plain.InsertQuery c.in-InsertQuery.name (query_of c.in-InsertQuery.query)) (query_of c.in-InsertQuery.query) refl why c.in-Err.ensures.err)

pub returns-in-Ok-clause-few : goal.returns-in-Ok-clause-few
returns-in-Ok-clause-few g c =
    let old = c.args.pass.now.words in
    let s = c.args.sight.now in
    let h = history_of old s in
    let rows = c.in-Ok.table.rows in
    subst (λ a. length rows ≤ taken_rows (count h (actions_before s)) (action_of a)) (sym c.in-InsertQuery.is)
    (few_counted old h (actions_before s) s.tables c.requires.sight.denotes (query_of c.in-InsertQuery.query) (length rows) c.in-Ok.ensures.few)

pub returns-in-Err-clause-writes : goal.returns-in-Err-clause-writes
returns-in-Err-clause-writes g c =
    let h = history_of c.args.pass.now.words c.args.sight.now in
    let before = actions_before c.args.sight.now in
    subst (λ a. PassWrites g.N.Site.log.cap c.args.pass.now c.answered.new.pass (taking_words (count h before) (widths_in (schema h before).tables) (action_of a)) (says_full c.in-Err.why)) (sym c.in-InsertQuery.is)
    c.in-Err.ensures.writes

pub returns-in-Ok-clause-writes : goal.returns-in-Ok-clause-writes
returns-in-Ok-clause-writes g c =
    let h = history_of c.args.pass.now.words c.args.sight.now in
    let before = actions_before c.args.sight.now in
    subst (λ a. PassWrites g.N.Site.log.cap c.args.pass.now c.answered.new.pass (taking_words (count h before) (widths_in (schema h before).tables) (action_of a)) false) (sym c.in-InsertQuery.is) c.in-Ok.ensures.writes

pub returns-in_default-clause-writes : goal.returns-in_default-clause-writes
returns-in_default-clause-writes g c = writes_none _ c.words.ensures.formed c.words.ensures.room
