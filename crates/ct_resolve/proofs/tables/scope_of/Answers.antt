use Rattle.std.proofs.Common.{◌+◌, map, drop, sym, ap, ◌∙◌}
use Rattle.ct_resolve.{specs.Found.each, specs.Queries.{seen_table, table_of}, proofs.Founds.{behind, one_more, read_next}}
use Rattle.ct_resolve.proofs.tables.scope_of.Goals as goal

pub loop-joined-preserved : goal.loop-joined-preserved
loop-joined-preserved g c =
    ap (λ xs. behind xs (each (seen_table (g.H.Headings.schema c.args.schema.now).tables) (map table_of (drop (c.loop-joined.joined-index + 1) c.as_slice-joined-items.result.now)))) c.in_ok-push-2.ensures.items
    ∙ one_more (seen_table (g.H.Headings.schema c.args.schema.now).tables) c.loop-joined.found.items (table_of c.joined-item.result) c.in_ok-heading.heading
    (map table_of (drop (c.loop-joined.joined-index + 1) c.as_slice-joined-items.result.now)) c.in_ok-heading.ensures.ok
    ∙ ap (λ js. behind c.loop-joined.found.items (each (seen_table (g.H.Headings.schema c.args.schema.now).tables) (map table_of js))) (sym (read_next _ _ _ c.loop-joined-test.true c.joined-item.is))
    ∙ c.loop-joined.invariant
