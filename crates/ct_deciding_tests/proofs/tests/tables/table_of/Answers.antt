use Rattle.std.{proofs.Common.{length, subst, sym}, proofs.lemmas.List.Elements.All-nil}
use Rattle.ct_word.specs.Value.{same_cells}
use Rattle.ct_operators.{specs.Tables.AreRows, proofs.Firsts.none_distinct}
use Rattle.ct_deciding_tests.proofs.tests.tables.table_of.Goals as goal

pub insert-requires-clause-table : goal.insert-requires-clause-table
insert-requires-clause-table g c =
    subst (AreRows c.args.pass.now.words (length c.args.columns)) (sym c.new.ensures)
    (record { each = All-nil _; distinct = none_distinct same_cells; possible = All-nil _ })
