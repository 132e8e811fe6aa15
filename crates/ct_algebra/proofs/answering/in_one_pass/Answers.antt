use Rattle.std.{proofs.Common.{◌+◌, ◌*◌, ◌≤◌, length, arith}, proofs.lemmas.Result.err_from_is_err_and, proofs.lemmas.Nat.mul-le}
use Rattle.ct_query.{specs.Bounds.ops, specs.Pred.condition_of, specs.Terms.condition_terms}
use Rattle.ct_operators.proofs.Growing.{rows_grow}
use Rattle.ct_algebra.{specs.Joining.pair_words, proofs.Pairs.pair_words_within, proofs.Putting.{literals_fit, none_new}, proofs.Growing.answer_grows, proofs.Operators.join_answers}
use Rattle.ct_algebra.proofs.Appending.{formed_before, after_literals, refused_within, pair_sum}
use Rattle.ct_algebra.proofs.answering.in_one_pass.Goals as goal

pub put_literals-requires : goal.put_literals-requires
put_literals-requires g c = record { fits = literals_fit (length c.args.left.now.columns + length c.args.right.now.columns) (condition_of c.args.p.now) c.requires.predicate.fields }

pub returns-in_err-put_literals-clause-grows : goal.returns-in_err-put_literals-clause-grows
returns-in_err-put_literals-clause-grows g c =
    let exit = err_from_is_err_and c.from_residual.result c.from_residual.ensures.1 in
    let p = condition_of c.args.p.now in
    let all = length c.args.left.now.rows * length c.args.right.now.rows in
    rw (exit.1, exit.2)
    (refused_within _ _ _ (condition_terms p) (condition_terms p) 0 (all + all * (ops p + 1)) (λ t h. h) (omega arith) c.in_err-put_literals.ensures.grows)

pub join-requires : goal.join-requires
join-requires g c =
    let old = c.args.pass.now.words in
    let mid = c.put_literals.new.pass.words in
    let writes = c.in_ok-put_literals.ensures.grows.writes in
    record {
      left = rows_grow old mid writes.longer (formed_before writes) (length c.args.left.now.columns) c.args.left.now.rows c.requires.left;
      right = rows_grow old mid writes.longer (formed_before writes) (length c.args.right.now.columns) c.args.right.now.rows c.requires.right;
      few = c.requires.few;
      predicate = c.requires.predicate;
      placed = none_new mid (condition_of c.args.p.now) c.in_ok-put_literals.ensures.placed;
    }

pub returns-clause-evaluates : goal.returns-clause-evaluates
returns-clause-evaluates g c =
    λ old db a b s t.
    let ws = c.args.pass.now.words in
    let mid = c.put_literals.new.pass.words in
    let writes = c.in_ok-put_literals.ensures.grows.writes in
    let formed = formed_before writes in
    join_answers old mid c.join.new.pass.words db a b c.args.left.now c.args.right.now (answer_grows old ws mid db a c.args.left.now writes.longer formed s) (answer_grows old ws mid db b c.args.right.now writes.longer formed t)
    (condition_of c.args.p.now) c.join.result c.join.ensures.width c.join.ensures.rows c.join.ensures.tuples c.join.ensures.part c.join.ensures.terms

pub returns-clause-grows : goal.returns-clause-grows
returns-clause-grows g c =
    let p = condition_of c.args.p.now in
    let all = length c.args.left.now.rows * length c.args.right.now.rows in
    let most : all * pair_words p ≤ all * (ops p + 2) = mul-le all (pair_words p) all (ops p + 2) (omega arith) (pair_words_within p) in
    after_literals _ c.put_literals.new.pass _ (condition_terms p) _ c.join.result (all * pair_words p) (all + all * (ops p + 1)) c.in_ok-put_literals.ensures.grows
    c.join.ensures.writes (omega (arith, most, pair_sum all (ops p)))
