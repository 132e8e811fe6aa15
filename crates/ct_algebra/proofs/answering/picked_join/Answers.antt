use Rattle.std.{proofs.Common.{◌+◌, ◌*◌, ◌≤◌, ◌<◌, length, sym, subst, ◌∙◌, arith}, specs.Prelude.All, proofs.lemmas.Result.err_from_is_err_and, proofs.lemmas.Nat.mul-le}
use Rattle.ct_query.{specs.Bounds.ops, specs.Plain.{Select, Product}, specs.Pred.condition_of, specs.Terms.condition_terms}
use Rattle.ct_algebra.{specs.Joining.pair_words, specs.Words.most_rows, proofs.Pairs.pair_words_within, proofs.Operators.project_answers, proofs.Counted.rows_within}
use Rattle.ct_algebra.proofs.Appending.{onward, grows_more, refused_within, product_most, pairs_most, picked_sum}
use Rattle.ct_algebra.proofs.answering.picked_join.Goals as goal

pub picked_in_one_pass-requires : goal.picked_in_one_pass-requires
picked_in_one_pass-requires g c =
    let s = c.requires.sides in
    record {
      left = s.4.are;
      right = s.5.are;
      columns = c.requires.columns;
      predicate = c.requires.predicate;
      few = c.have_pairs.ensures.few c.if-have_pairs.true;
    }

pub of_all_pairs-requires : goal.of_all_pairs-requires
of_all_pairs-requires g c =
    let s = c.requires.sides in
    record { left = s.4.are; right = s.5.are; predicate = c.requires.predicate }

pub project-requires : goal.project-requires
project-requires g c =
    let s = c.requires.sides in
    let pairs = c.in_ok-pairs.ensures.evaluates _ _ _ _ s.4 s.5 in
    record {
      rows = pairs.are;
      columns = subst (λ n. All (λ k. k < n) c.args.columns.now) (sym (pairs.width_is ∙ sym (λ i. s.4.width_is i + s.5.width_is i))) c.requires.columns;
    }

pub returns-then-have_pairs-clause-grows : goal.returns-then-have_pairs-clause-grows
returns-then-have_pairs-clause-grows g c =
    λ old db a b s t.
    let p = condition_of c.args.p.now in
    let most = most_rows db a * most_rows db b in
    let few : length c.args.left.now.rows * length c.args.right.now.rows ≤ most = product_most old _ db a b c.args.left.now c.args.right.now s t in
    let all : length c.args.left.now.rows * length c.args.right.now.rows * (pair_words p + 1) ≤ most * (ops p + 2 + 1) = mul-le _ (pair_words p + 1) most (ops p + 2 + 1) few (omega (arith, pair_words_within p)) in
    grows_more c.picked_in_one_pass.result _ _ (condition_terms p) _ (most + most * (ops p + 1) + most) (omega (arith, all, picked_sum most (ops p))) c.picked_in_one_pass.ensures.grows

pub returns-in_err-pairs-clause-grows : goal.returns-in_err-pairs-clause-grows
returns-in_err-pairs-clause-grows g c =
    λ old db a b s t.
    let p = condition_of c.args.p.now in
    let most = most_rows db a * most_rows db b in
    let all = length c.args.left.now.rows * length c.args.right.now.rows in
    let exit = err_from_is_err_and c.from_residual.result c.from_residual.ensures.1 in
    rw (exit.1, exit.2)
    (refused_within _ _ _ (condition_terms p) (condition_terms p) (all + all * (ops p + 1)) (most + most * (ops p + 1) + most) (λ t h. h)
    (omega (arith, pairs_most all most (ops p + 1) (product_most old _ db a b c.args.left.now c.args.right.now s t)))
    c.in_err-pairs.ensures.grows)

pub returns-clause-evaluates : goal.returns-clause-evaluates
returns-clause-evaluates g c =
    λ old db a b s t.
    let pairs = c.in_ok-pairs.ensures.evaluates old db a b s t in
    project_answers old _ c.project.new.pass.words db (Select (condition_of c.args.p.now) (Product a b)) c.in_ok-pairs.pairs pairs c.args.columns.now c.project.result c.project.ensures.columns c.project.ensures.rows
    c.project.ensures.tuples c.project.ensures.part c.project.ensures.terms

pub returns-clause-grows : goal.returns-clause-grows
returns-clause-grows g c =
    λ old db a b s t.
    let p = condition_of c.args.p.now in
    let most = most_rows db a * most_rows db b in
    let all = length c.args.left.now.rows * length c.args.right.now.rows in
    let pairs = c.in_ok-pairs.ensures.evaluates old db a b s t in
    grows_more c.project.result _ _ (condition_terms p) (all + all * (ops p + 1) + most) (most + most * (ops p + 1) + most)
    (omega (arith, pairs_most all most (ops p + 1) (product_most old _ db a b c.args.left.now c.args.right.now s t)))
    (onward _ _ _ _ c.in_ok-pairs.pairs c.project.result (all + all * (ops p + 1)) _ most c.in_ok-pairs.ensures.grows c.project.ensures.writes
    (rows_within old _ db (Select p (Product a b)) c.in_ok-pairs.pairs pairs))
