use Rattle.std.proofs.Common.{map}
use Rattle.ct_query.{specs.Size.rows_in, specs.Views.query_of}
use Rattle.ct_table.specs.Counting.{count_of}
use Rattle.ct_algebra.proofs.Limits.{not_above}
use Rattle.ct_query.specs.Size as spec
use Rattle.ct_algebra.proofs.evaluation.eval.Goals as goal

pub returns-in_err-planned_answer-clause-refused : goal.returns-in_err-planned_answer-clause-refused
returns-in_err-planned_answer-clause-refused g c above =
    absurd (not_above (spec.size (rows_in c.in_ok-counts.counts.tables) (query_of c.args.q.now)) (spec.size (rows_in (map count_of c.args.db.now)) (query_of c.args.q.now)) c.size.result
    c.in_ok-counts.ensures.same_size c.size.ensures c.if-size-gt-LIMIT.false above)

pub returns-in_err-planned_answer-clause-untouched : goal.returns-in_err-planned_answer-clause-untouched
returns-in_err-planned_answer-clause-untouched g c above =
    absurd (not_above (spec.size (rows_in c.in_ok-counts.counts.tables) (query_of c.args.q.now)) (spec.size (rows_in (map count_of c.args.db.now)) (query_of c.args.q.now)) c.size.result
    c.in_ok-counts.ensures.same_size c.size.ensures c.if-size-gt-LIMIT.false above)

pub returns-clause-refused : goal.returns-clause-refused
returns-clause-refused g c above =
    absurd (not_above (spec.size (rows_in c.in_ok-counts.counts.tables) (query_of c.args.q.now)) (spec.size (rows_in (map count_of c.args.db.now)) (query_of c.args.q.now)) c.size.result
    c.in_ok-counts.ensures.same_size c.size.ensures c.if-size-gt-LIMIT.false above)

pub returns-clause-untouched : goal.returns-clause-untouched
returns-clause-untouched g c above =
    absurd (not_above (spec.size (rows_in c.in_ok-counts.counts.tables) (query_of c.args.q.now)) (spec.size (rows_in (map count_of c.args.db.now)) (query_of c.args.q.now)) c.size.result
    c.in_ok-counts.ensures.same_size c.size.ensures c.if-size-gt-LIMIT.false above)
