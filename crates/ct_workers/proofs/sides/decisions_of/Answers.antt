use Rattle.std.{proofs.Common.{◌≡◌, ◌∙◌, arith, length, sym, subst}, specs.List.AllZip}
use Rattle.ct_workers.{specs.Right.IsRight, proofs.Placed.{all_dealt, answer_right, answered, zipped}}
use Rattle.ct_workers.proofs.sides.decisions_of.Goals as goal

pub put_back-requires-clause-dealt : goal.put_back-requires-clause-dealt
put_back-requires-clause-dealt c = all_dealt (λ r. r.items) c.args.words.now c.args.roots.now c.args.rows.len c.requires.some c.args.rows.items (sym c.args.rows.ok.0) c.requires.rows

pub returns : goal.returns
returns c =
    let words = c.args.words.now in
    let roots = c.args.roots.now in
    let answers = c.in_ok-answers.answers in
    let are = c.in_ok-answers.ensures in
    let many : length answers.items ≡ length roots = omega (arith, are.count, answers.ok.0) in
    subst (AllZip (IsRight words) roots) (sym c.in_ok-list.ensures)
    (zipped words roots answers.items many
    (λ q d lt. answer_right words roots q _ _ (answered (λ r. r.items) words roots c.args.rows.len c.requires.some c.args.rows.items (sym c.args.rows.ok.0) c.requires.rows q lt) (are.each q d lt)))
