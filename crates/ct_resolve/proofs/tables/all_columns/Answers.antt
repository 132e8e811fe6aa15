use Rattle.std.proofs.Common.{◌+◌, ◌++◌, drop, sym, ap, ◌∙◌}
use Rattle.ct_resolve.{specs.Queries.{numbered, columns_of}, proofs.Founds.read_next, proofs.Picked.table_picked}
use Rattle.ct_resolve.proofs.tables.all_columns.Goals as goal

pub loop-table-preserved : goal.loop-table-preserved
loop-table-preserved c =
    table_picked c.loop-table.picked.items c.loop-table.next c.table-item.result.columns (columns_of (drop (c.loop-table.table-index + 1) c.args.scope.now)) c.in_ok-next.ensures.picked c.in_ok-next.ensures.ok
    ∙ ap (λ ts. c.loop-table.picked.items ++ numbered c.loop-table.next (columns_of ts)) (sym (read_next _ _ _ c.loop-table-test.true c.table-item.is))
    ∙ c.loop-table.invariant
