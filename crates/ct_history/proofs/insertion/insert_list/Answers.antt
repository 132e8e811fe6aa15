use Rattle.std.{proofs.Common.{arith, subst}, specs.Prelude.IfOk}
use Rattle.ct_word.{proofs.Prefixes.place_in_prefix, specs.Change.Insert, specs.Reading.{IsChangeList, as_row_list, as_text}, specs.Stands.StandsAt}
use Rattle.ct_history.proofs.Lists.{list_said, meaning_kept}
use Rattle.ct_word.specs.declared.kinds.Class.TheVariants as class
use Rattle.ct_condition.proofs.Writes.{writes_both, writes_within}
use Rattle.ct_history.proofs.Frames.{refused}
use Rattle.ct_history.proofs.insertion.insert_list.Goals as goal

pub returns-clause-stands : goal.returns-clause-stands
returns-clause-stands g c =
    let old = c.args.pass.now.words in
    let now = c.text.new.pass.words in
    let longer = c.in_ok-table.ensures.longer in
    subst (λ xs. IfOk c.add.result (λ place. StandsAt c.add.new.pass.words place (IsChangeList xs)))
    (list_said old now c.args.list _ _ longer c.requires.list
    (λ i. Insert (as_text (c.in_ok-table.ensures.stands i)) (as_row_list (meaning_kept old now class.RowList c.args.rows longer c.requires.rows i))))
    c.add.ensures.adds

pub add-requires-clause-list : goal.add-requires-clause-list
add-requires-clause-list g c = grind (arith, place_in_prefix)

pub add-requires-clause-formed : goal.add-requires-clause-formed
add-requires-clause-formed g c = grind (arith, place_in_prefix)

pub returns-in_err-table-clause-writes : goal.returns-in_err-table-clause-writes
returns-in_err-table-clause-writes g c = refused _ c.from_residual.result c.from_residual.ensures.1 (omega arith) c.in_err-table.ensures.writes

pub returns-clause-writes : goal.returns-clause-writes
returns-clause-writes g c = writes_within _ (omega arith) (writes_both c.in_ok-table.ensures.writes c.add.ensures.writes)
