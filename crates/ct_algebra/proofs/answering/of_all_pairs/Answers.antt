use Rattle.std.{proofs.Common.{◌≡◌, ◌+◌, ◌*◌, ◌≤◌, length, Ok, ap, sym, subst, ◌∙◌, arith}, proofs.lemmas.Result.err_from_is_err_and, proofs.lemmas.Nat.mul-le, proofs.lemmas.List.length-append}
use Rattle.ct_query.{specs.Bounds.ops, specs.Fits.FitsRows, specs.Plain.Product, specs.Pred.condition_of, specs.Terms.condition_terms}
use Rattle.ct_operators.{specs.declared.table.CTable.CTable, specs.Tables.AreRows}
use Rattle.ct_algebra.{specs.Evaluates.Evaluates, proofs.Operators.product_answers, proofs.Appending.{grows_then, grows_by, refused_within}, proofs.Counted.pairs_counted}
use Rattle.ct_algebra.proofs.answering.of_all_pairs.Goals as goal

pub filtered-requires : goal.filtered-requires
filtered-requires g c =
    let pairs = c.in_ok-pairs.pairs in
    let mid = c.product.new.pass.words in
    let wide : length pairs.columns ≡ length c.args.left.now.columns + length c.args.right.now.columns =
    ap (λ cs. length cs) c.in_ok-pairs.ensures.columns ∙ length-append c.args.left.now.columns c.args.right.now.columns in
    record {
      rows = subst (λ (t : CTable). AreRows mid (length t.columns) t.rows) (sym c.made.ensures) (subst (λ n. AreRows mid n pairs.rows) (sym wide) c.in_ok-pairs.ensures.rows);
      predicate = subst (λ (t : CTable). FitsRows (length t.columns) (condition_of c.args.p.now)) (sym c.made.ensures) (subst (λ n. FitsRows n (condition_of c.args.p.now)) (sym wide) c.requires.predicate);
    }

pub returns-clause-evaluates : goal.returns-clause-evaluates
returns-clause-evaluates g c =
    λ old db a b s t.
    let parts = c.in_ok-pairs.ensures in
    c.filtered.ensures.evaluates old db (Product a b) (subst (Evaluates old c.product.new.pass.words db (Product a b)) (sym c.made.ensures)
    (product_answers old c.args.pass.now.words c.product.new.pass.words db a b c.args.left.now c.args.right.now s t (Ok c.in_ok-pairs.pairs) parts.columns parts.rows parts.tuples parts.part parts.terms))

pub returns-clause-grows : goal.returns-clause-grows
returns-clause-grows g c =
    let p = condition_of c.args.p.now in
    let all = length c.args.left.now.rows * length c.args.right.now.rows in
    let pairs = c.in_ok-pairs.pairs in
    let made = c.made.result in
    let few : length made.rows ≤ all = subst (λ (t : CTable). length t.rows ≤ all) (sym c.made.ensures)
    (pairs_counted c.args.pass.now.words c.product.new.pass.words c.args.left.now.rows c.args.right.now.rows pairs.rows c.in_ok-pairs.ensures.part) in
    grows_then _ _ _ (condition_terms p) _ c.filtered.result (condition_terms p) (condition_terms p) all (length made.rows * (ops p + 1)) (all * (ops p + 1)) (λ t h. h) (λ t h. h)
    (mul-le (length made.rows) (ops p + 1) all (ops p + 1) few (omega arith))
    (grows_by (Ok pairs) _ _ (condition_terms p) all c.in_ok-pairs.ensures.writes)
    c.filtered.ensures.grows

pub returns-in_err-pairs-clause-grows : goal.returns-in_err-pairs-clause-grows
returns-in_err-pairs-clause-grows g c =
    let p = condition_of c.args.p.now in
    let all = length c.args.left.now.rows * length c.args.right.now.rows in
    let exit = err_from_is_err_and c.from_residual.result c.from_residual.ensures.1 in
    rw (exit.1, exit.2)
    (refused_within {A = CTable} _ _ _ (condition_terms p) (condition_terms p) all (all + all * (ops p + 1)) (λ t h. h) (omega arith)
    (grows_by _ _ _ (condition_terms p) all c.in_err-pairs.ensures.writes))
