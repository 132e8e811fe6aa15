use Rattle.std.{proofs.Common.{arith, length, refl}, proofs.lemmas.Result.err_from_is_err_and}
use Rattle.ct_query.specs.Views.{query_of}
use Rattle.ct_condition.proofs.Writes.{writes_both, writes_within}
use Rattle.ct_statement.{specs.Sight.{actions_before, history_of}, proofs.Asserts.query_asserted, proofs.Evaluating.few_counted, proofs.Wanting.unasked_action}
use Rattle.ct_query.specs.Plain as plain
use Rattle.ct_statement.proofs.asserting.asserted_query.Goals as goal

pub returns-in-Err-clause-err : goal.returns-in-Err-clause-err
returns-in-Err-clause-err g c =
    let h = history_of c.args.pass.now.words c.args.sight.now in
    let q = query_of c.args.query.now in
    unasked_action h (actions_before c.args.sight.now) g.N.Site.log.cap c.answered.new.pass.words (plain.AssertQuery c.args.wanted q) q refl c.in-Err.why c.in-Err.ensures.err

pub returns-in-Ok-has_row-clause-row : goal.returns-in-Ok-has_row-clause-row
returns-in-Ok-has_row-clause-row g c =
    let s = c.args.sight.now in
    let table = c.in-Ok.table in
    query_asserted (history_of c.args.pass.now.words s) (actions_before s) c.answered.new.pass.words c.has_row.new.pass.words s.global (query_of c.args.query.now) (length table.columns) table.rows
    c.in-Ok.ensures.ok c.args.wanted c.in-Ok-has_row.place c.in_ok-one_row-in-Ok-has_row.field-0 c.in_ok-one_row-in-Ok-has_row.ensures c.in-Ok-has_row.ensures.holds c.in-Ok-has_row.ensures.terms

pub returns-in-Err-clause-writes : goal.returns-in-Err-clause-writes
returns-in-Err-clause-writes g c = writes_within _ (omega arith) c.in-Err.ensures.writes

pub returns-in-Ok-has_row-clause-writes : goal.returns-in-Ok-has_row-clause-writes
returns-in-Ok-has_row-clause-writes g c =
    let old = c.args.pass.now.words in
    let s = c.args.sight.now in
    let few = few_counted old (history_of old s) (actions_before s) s.tables c.requires.sight.denotes (query_of c.args.query.now) (length c.in-Ok.table.rows) c.in-Ok.ensures.few in
    writes_within _ (omega (arith, few)) (writes_both c.in-Ok.ensures.writes c.in-Ok-has_row.ensures.writes)

pub returns-in_err-one_row-in-Ok-has_row-clause-writes : goal.returns-in_err-one_row-in-Ok-has_row-clause-writes
returns-in_err-one_row-in-Ok-has_row-clause-writes g c =
    let old = c.args.pass.now.words in
    let s = c.args.sight.now in
    let few = few_counted old (history_of old s) (actions_before s) s.tables c.requires.sight.denotes (query_of c.args.query.now) (length c.in-Ok.table.rows) c.in-Ok.ensures.few in
    let p = err_from_is_err_and c.from_residual.result c.from_residual.ensures.1 in
    rw (p.1, p.2) (writes_within _ (omega (arith, few)) (writes_both c.in-Ok.ensures.writes c.in-Ok-has_row.ensures.writes))

pub returns-clause-writes : goal.returns-clause-writes
returns-clause-writes g c =
    let old = c.args.pass.now.words in
    let s = c.args.sight.now in
    let few = few_counted old (history_of old s) (actions_before s) s.tables c.requires.sight.denotes (query_of c.args.query.now) (length c.in-Ok.table.rows) c.in-Ok.ensures.few in
    writes_within _ (omega (arith, few)) (writes_both c.in-Ok.ensures.writes c.in-Err-has_row.ensures.writes)
