use Rattle.std.{proofs.Common.{sym, subst, ◌∙◌}, specs.Prelude.All, specs.List.AllZip}
use Rattle.ct_certain.specs.Answered.{IsSettled}
use Rattle.ct_questions.specs.declared.tuples.Candidate.{Candidate}
use Rattle.ct_workers.specs.Right.{IsQuestion, IsRight}
use Rattle.ct_statement.proofs.Sides.{candidates_asked, candidates_settled}
use Rattle.ct_statement.proofs.workers.certain_decided.Goals as goal

pub decide_all-requires-clause-questions : goal.decide_all-requires-clause-questions
decide_all-requires-clause-questions g c κs within =
    let r = c.requires.candidates in
    subst (All (IsQuestion c.args.words.now)) (sym (c.as_slice.ensures.value ∙ c.in_ok-roots.ensures))
    (candidates_asked r.0 c.args.words.now r.1 r.2 c.args.candidates.now r.4.roots)

pub certain_list-requires-clause-right : goal.certain_list-requires-clause-right
certain_list-requires-clause-right g c =
    let words = c.args.words.now in
    let cs = c.args.candidates.now in
    subst (AllZip (λ (x : Candidate) d. IsSettled words x.root d) cs) (sym c.as_slice-2.ensures)
    (candidates_settled words cs c.in-Ok.decisions (subst (λ l. AllZip (IsRight words) l c.in-Ok.decisions) (c.as_slice.ensures.value ∙ c.in_ok-roots.ensures) c.in-Ok.ensures.decided))
