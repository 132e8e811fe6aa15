use Rattle.std.{proofs.Common.{arith, subst}, specs.Prelude.IfOk}
use Rattle.ct_word.{proofs.Prefixes.place_in_prefix, specs.Change.Insert, specs.Reading.{IsChangeList, as_row_list}, specs.Stands.StandsAt}
use Rattle.ct_history.proofs.Lists.{list_said}
use Rattle.ct_condition.proofs.Writes.{writes_both, writes_within}
use Rattle.ct_history.proofs.Frames.{refused}
use Rattle.ct_history.proofs.insertion.insert.Goals as goal

pub returns-clause-stands : goal.returns-clause-stands
returns-clause-stands g c =
    subst (λ xs. IfOk c.insert_list.result (λ place. StandsAt c.insert_list.new.pass.words place (IsChangeList xs)))
    (list_said c.args.pass.now.words c.row_list.new.pass.words c.args.list _ _ c.in_ok-list_of_rows.ensures.writes.longer c.requires.list
    (λ i. Insert c.args.name.now (as_row_list (c.in_ok-list_of_rows.ensures.rows.stands i))))
    c.insert_list.ensures.stands

pub insert_list-requires-clause-list : goal.insert_list-requires-clause-list
insert_list-requires-clause-list g c = grind (arith, place_in_prefix)

pub returns-in_err-list_of_rows-clause-writes : goal.returns-in_err-list_of_rows-clause-writes
returns-in_err-list_of_rows-clause-writes g c = refused _ c.from_residual.result c.from_residual.ensures.1 (omega arith) c.in_err-list_of_rows.ensures.writes

pub returns-clause-writes : goal.returns-clause-writes
returns-clause-writes g c = writes_within _ (omega arith) (writes_both c.in_ok-list_of_rows.ensures.writes c.insert_list.ensures.writes)
