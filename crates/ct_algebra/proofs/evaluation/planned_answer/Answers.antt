use Rattle.std.{proofs.Common.{subst, arith}, proofs.lemmas.Result.{IfOk-weaker, err_from_is_err_and}}
use Rattle.ct_query.{specs.Terms.query_terms, specs.Views.query_of}
use Rattle.ct_condition.proofs.Writes.{writes_none}
use Rattle.ct_algebra.{specs.Words.{SpendsWithin, most_words}, proofs.Nodes.nodes_within, proofs.Planned.answers_in_place}
use Rattle.ct_algebra.proofs.evaluation.planned_answer.Goals as goal

pub answer-answered-requires : goal.answer-answered-requires
answer-answered-requires g c = record { tables = c.requires.tables; fits = c.in_ok-planned.ensures.replaces.fits }

pub returns-in_err-planned-clause-writes : goal.returns-in_err-planned-clause-writes
returns-in_err-planned-clause-writes g c =
    let exit = err_from_is_err_and c.from_residual.result c.from_residual.ensures.1 in
    rw (exit.1, exit.2) (writes_none _ c.words.ensures.formed c.words.ensures.room)

pub returns-clause-evaluates : goal.returns-clause-evaluates
returns-clause-evaluates g c =
    IfOk-weaker c.answer-answered.result _ _
    (λ out s. answers_in_place c.args.pass.now.words c.answer-answered.new.pass.words c.args.db.now (query_of c.args.q.now) (query_of c.in_ok-planned.planned) out c.requires.tables c.in_ok-planned.ensures.replaces s)
    c.answer-answered.ensures.evaluates

pub returns-clause-writes : goal.returns-clause-writes
returns-clause-writes g c =
    nodes_within c.answer-answered.result c.args.db.now (query_of c.args.q.now) (query_of c.in_ok-planned.planned) c.args.pass.now c.answer-answered.new.pass c.in_ok-planned.ensures.replaces
    (omega (arith, c.words-2.ensures.small, c.words-2.ensures.counted)) c.answer-answered.ensures.grows

pub returns-in_err-planned-clause-spends : goal.returns-in_err-planned-clause-spends
returns-in_err-planned-clause-spends g c = λ literals has. omega arith

pub returns-clause-spends : goal.returns-clause-spends
returns-clause-spends g c =
    subst (λ p. SpendsWithin c.args.pass.now.words c.args.pass.now.made c.answer-answered.new.pass.made (query_terms p) (most_words c.args.db.now p)) c.in_ok-planned.ensures.is_planned
    (λ literals has. let all = c.answer-answered.ensures.grows.grows literals has in omega (arith, all))
