use Rattle.std.{proofs.Common.{[], length, map, sym, subst, arith}, specs.Prelude.filter_map, proofs.lemmas.List.take_all}
use Rattle.ct_word.{specs.Reading.{as_commit, meanings}, specs.StandsFor.SameCommits, proofs.Growth.length-read}
use Rattle.ct_rewrite.specs.History.{plain_commit}
use Rattle.ct_history.proofs.printing.commits.Goals as goal

pub returns-clause-stands : goal.returns-clause-stands
returns-clause-stands c =
    let words = c.args.words.now in
    let n = length words in
    subst (λ xs. SameCommits (map plain_commit xs) (filter_map as_commit (meanings words))) (sym c.from_vec.ensures)
    (subst (λ ms. SameCommits (map plain_commit c.in_ok-commits.commits.items) (filter_map as_commit ms))
    (take_all n (meanings words) (omega (arith, length-read [] words))) (c.in_ok-commits.ensures.stands [] tt))
