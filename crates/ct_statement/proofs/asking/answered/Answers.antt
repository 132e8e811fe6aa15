use Rattle.std.{proofs.Common.{◌∙◌, ap, false, length, map, subst, sym}, proofs.lemmas.Bool.false≢true, specs.Prelude.{◌≤◌, Err}}
use Rattle.ct_query.{specs.Bounds.nodes, specs.Fits.{Fits, width}, specs.Patterns.count, specs.Size.{rows_in, row_bound}, specs.Views.query_of}
use Rattle.ct_condition.proofs.Writes.{writes_within}
use Rattle.ct_condition.specs.Writes.{PassWrites}
use Rattle.ct_table.{specs.Counting.count_of, specs.Denotes.Denotes}
use Rattle.ct_operators.specs.Tables.{AreRows}
use Rattle.ct_algebra.proofs.Counted.{rows_within}
use Rattle.ct_statement.{specs.Asking.{IsUnasked, unanswered}, specs.Making.says_full, specs.Sight.{actions_before, history_of}, proofs.Evaluating.{are_tables, answers_query, evaluation_fails, rows_fewer}}
use Rattle.ct_statement.proofs.{Frames.{gathered, unanswered_full}, Weights.nodes_grow}
use Rattle.ct_statement.proofs.asking.answered.Goals as goal

pub eval-evaluated-requires-clause-tables : goal.eval-evaluated-requires-clause-tables
eval-evaluated-requires-clause-tables g c =
    let old = c.args.pass.now.words in
    let h = history_of old c.args.sight.now in
    let actions = actions_before c.args.sight.now in
    are_tables old h actions c.db.result.now (subst (Denotes old h actions) (sym c.db.ensures) c.requires.sight.denotes)

pub eval-evaluated-requires-clause-fits : goal.eval-evaluated-requires-clause-fits
eval-evaluated-requires-clause-fits g c =
    let old = c.args.pass.now.words in
    let denotes = subst (Denotes old (history_of old c.args.sight.now) (actions_before c.args.sight.now)) (sym c.db.ensures) c.requires.sight.denotes in
    subst (λ hs. Fits hs (query_of c.args.query.now)) (sym denotes.worth.headings) c.requires.fits

pub returns-in-Ok-clause-width : goal.returns-in-Ok-clause-width
returns-in-Ok-clause-width g c =
    let old = c.args.pass.now.words in
    let denotes = subst (Denotes old (history_of old c.args.sight.now) (actions_before c.args.sight.now)) (sym c.db.ensures) c.requires.sight.denotes in
    c.in-Ok.ensures.columns ∙ ap (λ hs. width hs (query_of c.args.query.now)) denotes.worth.headings

pub returns-in-Ok-clause-few : goal.returns-in-Ok-clause-few
returns-in-Ok-clause-few g c =
    subst (λ db. length c.in-Ok.table.rows ≤ row_bound (rows_in (map count_of db)) (query_of c.args.query.now)) c.db.ensures
    (rows_within c.args.pass.now.words c.eval-evaluated.new.pass.words c.db.result.now (query_of c.args.query.now) c.in-Ok.table (record {
      width_is = c.in-Ok.ensures.columns;
      are = subst (λ n. AreRows c.eval-evaluated.new.pass.words n c.in-Ok.table.rows) (sym c.in-Ok.ensures.columns) c.in-Ok.ensures.rows;
      tuples = c.in-Ok.ensures.tuples;
      part = c.in-Ok.ensures.part;
      from = c.in-Ok.ensures.terms;
    }))

pub returns-in-Ok-clause-ok : goal.returns-in-Ok-clause-ok
returns-in-Ok-clause-ok g c =
    let old = c.args.pass.now.words in
    let h = history_of old c.args.sight.now in
    let actions = actions_before c.args.sight.now in
    answers_query old h actions c.db.result.now (subst (Denotes old h actions) (sym c.db.ensures) c.requires.sight.denotes) c.eval-evaluated.new.pass.words (query_of c.args.query.now)
    c.eval-evaluated.ensures.longer c.words.ensures.formed c.args.sight.now.global c.requires.sight.condition c.in-Ok.table (record {
      width_is = c.in-Ok.ensures.columns;
      are = subst (λ n. AreRows c.eval-evaluated.new.pass.words n c.in-Ok.table.rows) (sym c.in-Ok.ensures.columns) c.in-Ok.ensures.rows;
      tuples = c.in-Ok.ensures.tuples;
      part = c.in-Ok.ensures.part;
      from = c.in-Ok.ensures.terms;
    })

pub returns-in-Err-clause-err : goal.returns-in-Err-clause-err
returns-in-Err-clause-err g c =
    let old = c.args.pass.now.words in
    let h = history_of old c.args.sight.now in
    let actions = actions_before c.args.sight.now in
    let q = query_of c.args.query.now in
    subst (IsUnasked h actions g.N.Site.log.cap c.eval-evaluated.new.pass.words q) (sym c.unanswered.ensures)
    (evaluation_fails old h actions c.db.result.now (subst (Denotes old h actions) (sym c.db.ensures) c.requires.sight.denotes) c.eval-evaluated.new.pass.words q g.N.Site.log.cap c.args.pass.now.made c.eval-evaluated.new.pass.made c.in-Err.e c.eval-evaluated.ensures.rises
    (λ e. c.in-Err.ensures.too_large (ap Err e)) (λ e. c.in-Err.ensures.full (ap Err e)) (λ e. c.in-Err.ensures.fewer (ap Err e)))

pub returns-in-Ok-clause-writes : goal.returns-in-Ok-clause-writes
returns-in-Ok-clause-writes g c =
    let old = c.args.pass.now.words in
    let h = history_of old c.args.sight.now in
    let actions = actions_before c.args.sight.now in
    let db = c.db.result.now in
    let e = c.eval-evaluated.ensures in
    let more = nodes_grow (rows_in (map count_of db)) (count h actions) (rows_fewer old h actions db (subst (Denotes old h actions) (sym c.db.ensures) c.requires.sight.denotes)) (query_of c.args.query.now) in
    writes_within _ more (gathered false e.longer c.words.ensures.formed e.room (λ h. absurd (false≢true h)) e.rises e.made (λ h. absurd (false≢true h)) e.session e.mine)

pub returns-in-Err-clause-writes : goal.returns-in-Err-clause-writes
returns-in-Err-clause-writes g c =
    let old = c.args.pass.now.words in
    let h = history_of old c.args.sight.now in
    let actions = actions_before c.args.sight.now in
    let q = query_of c.args.query.now in
    let db = c.db.result.now in
    let e = c.eval-evaluated.ensures in
    let why = c.in-Err.e in
    let more = nodes_grow (rows_in (map count_of db)) (count h actions) (rows_fewer old h actions db (subst (Denotes old h actions) (sym c.db.ensures) c.requires.sight.denotes)) q in
    subst (λ w. PassWrites g.N.Site.log.cap c.args.pass.now c.eval-evaluated.new.pass (nodes (count h actions) q) (says_full w)) (sym c.unanswered.ensures)
    (writes_within _ more
    (gathered (says_full (unanswered why)) e.longer c.words.ensures.formed e.room (λ h. c.in-Err.ensures.full (ap Err (unanswered_full why h))) e.rises e.made (λ h. c.in-Err.ensures.fewer (ap Err (unanswered_full why h))) e.session e.mine))
