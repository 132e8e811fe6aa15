use Rattle.std.{proofs.Common.{◌≡◌, ◌+◌, ◌*◌, ◌<◌, [], length, Ok, ap, sym, subst, ◌∙◌, arith}, specs.Prelude.{All}, proofs.lemmas.Result.{IfOk-weaker, err_from_is_err_and}}
use Rattle.std.proofs.lemmas.List.{length-append}
use Rattle.ct_query.specs.Plain.{Product}
use Rattle.ct_operators.{specs.declared.table.CTable.CTable, specs.Tables.AreRows}
use Rattle.ct_algebra.{proofs.Operators.{product_answers, project_answers, always_selected}, proofs.Counted.pairs_counted}
use Rattle.ct_algebra.proofs.Appending.{onward, grows_by, grows_more, refused_within}
use Rattle.ct_algebra.proofs.answering.picked_product.Goals as goal

pub picked_in_one_pass-requires : goal.picked_in_one_pass-requires
picked_in_one_pass-requires g c = record {
  left = c.requires.left;
  right = c.requires.right;
  columns = c.requires.columns;
  predicate = record { fields = tt; columns = tt };
  few = c.have_pairs.ensures.few c.if-have_pairs.true;
}

pub project-requires : goal.project-requires
project-requires g c =
    let pairs = c.in_ok-pairs.pairs in
    let wide : length pairs.columns ≡ length c.args.left.now.columns + length c.args.right.now.columns =
    ap (λ cs. length cs) c.in_ok-pairs.ensures.columns ∙ length-append c.args.left.now.columns c.args.right.now.columns in
    record {
      rows = subst (λ n. AreRows c.product.new.pass.words n pairs.rows) (sym wide) c.in_ok-pairs.ensures.rows;
      columns = subst (λ n. All (λ k. k < n) c.args.columns.now) (sym wide) c.requires.columns;
    }

pub returns-then-have_pairs-clause-evaluates : goal.returns-then-have_pairs-clause-evaluates
returns-then-have_pairs-clause-evaluates g c =
    λ old db a b s t.
    IfOk-weaker c.picked_in_one_pass.result _ _ (λ o e. always_selected old _ db c.args.columns.now (Product a b) o e) (c.picked_in_one_pass.ensures.evaluates old db a b s t)

pub returns-then-have_pairs-clause-grows : goal.returns-then-have_pairs-clause-grows
returns-then-have_pairs-clause-grows g c =
    let all = length c.args.left.now.rows * length c.args.right.now.rows in
    grows_more c.picked_in_one_pass.result _ _ [] (all * 2) (all + all) (omega arith) c.picked_in_one_pass.ensures.grows

pub returns-in_err-pairs-clause-grows : goal.returns-in_err-pairs-clause-grows
returns-in_err-pairs-clause-grows g c =
    let all = length c.args.left.now.rows * length c.args.right.now.rows in
    let exit = err_from_is_err_and c.from_residual.result c.from_residual.ensures.1 in
    rw (exit.1, exit.2) (refused_within {A = CTable} _ _ _ [] [] all (all + all) (λ t h. h) (omega arith) (grows_by _ _ _ [] all c.in_err-pairs.ensures.writes))

pub returns-clause-evaluates : goal.returns-clause-evaluates
returns-clause-evaluates g c =
    λ old db a b s t.
    let parts = c.in_ok-pairs.ensures in
    let pairs = product_answers old c.args.pass.now.words c.product.new.pass.words db a b c.args.left.now c.args.right.now s t (Ok c.in_ok-pairs.pairs) parts.columns parts.rows parts.tuples parts.part parts.terms in
    project_answers old _ c.project.new.pass.words db (Product a b) c.in_ok-pairs.pairs pairs c.args.columns.now c.project.result c.project.ensures.columns c.project.ensures.rows
    c.project.ensures.tuples c.project.ensures.part c.project.ensures.terms

pub returns-clause-grows : goal.returns-clause-grows
returns-clause-grows g c =
    let all = length c.args.left.now.rows * length c.args.right.now.rows in
    let pairs = c.in_ok-pairs.pairs in
    onward _ _ _ _ pairs c.project.result all _ all (grows_by (Ok pairs) _ _ [] all c.in_ok-pairs.ensures.writes) c.project.ensures.writes
    (pairs_counted c.args.pass.now.words c.product.new.pass.words c.args.left.now.rows c.args.right.now.rows pairs.rows c.in_ok-pairs.ensures.part)
