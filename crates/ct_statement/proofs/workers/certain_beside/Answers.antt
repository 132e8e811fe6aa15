use Rattle.std.proofs.Common.{sym, subst}
use Rattle.ct_certain.specs.Certain.{ListsCertain}
use Rattle.ct_questions.specs.Candidates.{AreCandidates}
use Rattle.ct_statement.proofs.workers.certain_beside.Goals as goal

pub certain_decided-requires-clause-candidates : goal.certain_decided-requires-clause-candidates
certain_decided-requires-clause-candidates g c κs within =
    let old = c.args.pass.now.words in
    let global = c.args.global in
    let rows = c.args.table.now.rows in
    let kept = c.args.kept.now in
    let are = subst (AreCandidates old c.certain_left.new.pass.words global rows kept) (sym c.as_slice.ensures) c.in_ok-candidates.ensures.candidates in
    (old, global, rows, kept, subst (λ ws. AreCandidates old ws global rows kept c.as_slice.result.now) (sym c.words-words.ensures.words) are)

pub returns-in-Ok-clause-lists : goal.returns-in-Ok-clause-lists
returns-in-Ok-clause-lists g c =
    let old = c.args.pass.now.words in
    let global = c.args.global in
    let rows = c.args.table.now.rows in
    let kept = c.args.kept.now in
    let are = subst (AreCandidates old c.certain_left.new.pass.words global rows kept) (sym c.as_slice.ensures) c.in_ok-candidates.ensures.candidates in
    let lists = c.in-Ok.ensures old global rows kept (subst (λ ws. AreCandidates old ws global rows kept c.as_slice.result.now) (sym c.words-words.ensures.words) are) in
    subst (λ ws. ListsCertain old ws global rows kept c.in-Ok.list) c.words-words.ensures.words lists
