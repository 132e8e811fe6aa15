use Rattle.std.{proofs.Common.{arith, ◌++◌, ◌∷◌, [], subst}, specs.Prelude.IfOk}
use Rattle.ct_word.{proofs.Prefixes.place_in_prefix, specs.Reading.{as_cond, as_row, as_row_list}}
use Rattle.ct_history.{specs.Rows.{AreRowsAt, row_under}, proofs.Lists.meaning_kept}
use Rattle.ct_word.specs.declared.kinds.Class.TheVariants as class
use Rattle.ct_condition.proofs.Writes.{writes_both, writes_within}
use Rattle.ct_history.proofs.Frames.{refused}
use Rattle.ct_history.proofs.encoding.add_terms.Goals as goal

pub returns-clause-rows : goal.returns-clause-rows
returns-clause-rows g c =
    let old = c.args.pass.now.words in
    let now = c.term_cells.new.pass.words in
    let longer = c.in_ok-row.ensures.writes.longer in
    subst (λ rs. IfOk c.put_row.result (λ place. AreRowsAt c.put_row.new.pass.words place rs))
    (λ i. as_row_list (meaning_kept old now class.RowList c.args.list longer c.requires.list i) ++ row_under (as_cond (meaning_kept old now class.Cond c.args.cond longer c.requires.cond i)) (as_row (c.in_ok-row.ensures.stands i)) ∷ [])
    c.put_row.ensures.rows

pub put_row-requires-clause-list : goal.put_row-requires-clause-list
put_row-requires-clause-list g c = grind (arith, place_in_prefix)

pub put_row-requires-clause-cond : goal.put_row-requires-clause-cond
put_row-requires-clause-cond g c = grind (arith, place_in_prefix)

pub returns-in_err-row-clause-writes : goal.returns-in_err-row-clause-writes
returns-in_err-row-clause-writes g c = refused _ c.from_residual.result c.from_residual.ensures.1 (omega arith) c.in_err-row.ensures.writes

pub returns-clause-writes : goal.returns-clause-writes
returns-clause-writes g c = writes_within _ (omega arith) (writes_both c.in_ok-row.ensures.writes c.put_row.ensures.writes)
