use Rattle.std.{proofs.Common.{arith, ◌++◌, ◌∷◌, [], ap, length, map, subst, ◌∙◌}, specs.Prelude.IfOk}
use Rattle.ct_word.{proofs.Prefixes.place_in_prefix, specs.Reading.{as_cond, as_row, as_row_list, term_at}}
use Rattle.ct_history.{specs.Rows.{AreRowsAt, row_under}, proofs.Lists.meaning_kept}
use Rattle.ct_word.specs.declared.kinds.Class.TheVariants as class
use Rattle.ct_condition.proofs.Writes.{writes_both, writes_within}
use Rattle.ct_history.proofs.Frames.{refused}
use Rattle.ct_history.proofs.insertion.add_row.Goals as goal

pub returns-clause-rows : goal.returns-clause-rows
returns-clause-rows g c =
    let old = c.args.pass.now.words in
    let now = c.cells.new.pass.words in
    let longer = c.in_ok-row_of_cells.ensures.writes.longer in
    let cells = ap as_row c.in_ok-row_of_cells.ensures.stands ∙ ap (map (term_at old)) c.as_slice.ensures in
    subst (λ rs. IfOk c.put_row.result (λ place. AreRowsAt c.put_row.new.pass.words place rs))
    (λ i. as_row_list (meaning_kept old now class.RowList c.args.list longer c.requires.list i) ++ row_under (as_cond (meaning_kept old now class.Cond c.args.row.now.cond longer c.requires.row.condition i)) (cells i) ∷ [])
    c.put_row.ensures.rows

pub put_row-requires-clause-list : goal.put_row-requires-clause-list
put_row-requires-clause-list g c = grind (arith, place_in_prefix)

pub put_row-requires-clause-cond : goal.put_row-requires-clause-cond
put_row-requires-clause-cond g c = grind (arith, place_in_prefix)

pub returns-in_err-row_of_cells-clause-writes : goal.returns-in_err-row_of_cells-clause-writes
returns-in_err-row_of_cells-clause-writes g c =
    let same = ap length c.as_slice.ensures in
    refused _ c.from_residual.result c.from_residual.ensures.1 (omega (arith, same)) c.in_err-row_of_cells.ensures.writes

pub returns-clause-writes : goal.returns-clause-writes
returns-clause-writes g c =
    let same = ap length c.as_slice.ensures in
    writes_within _ (omega (arith, same)) (writes_both c.in_ok-row_of_cells.ensures.writes c.put_row.ensures.writes)
