use Rattle.std.proofs.Common.{map, ap, sym, ◌∙◌}
use Rattle.ct_table.{specs.Denotes.heading_of, specs.Shared.entry_of, proofs.Shared.{put_entry, done_of}}
use Rattle.ct_table.proofs.pending.put_back.Goals as goal

pub invariant_of-result : goal.invariant_of-result
invariant_of-result c =
    let entries = done_of c.insert.result c.insert.ensures.entries c.insert.ensures.absent (λ none. c.insert.ensures.succeeds (c.requires.room none)) in
    (c.insert.ensures.unique, c.requires.headings ∙ ap (map heading_of) (sym (ap (map entry_of) entries ∙ put_entry c.args.name c.args.table c.args.tables.entries)))

pub returns : goal.returns
returns c =
    let entries = done_of c.insert.result c.insert.ensures.entries c.insert.ensures.absent (λ none. c.insert.ensures.succeeds (c.requires.room none)) in
    ap (map entry_of) entries ∙ put_entry c.args.name c.args.table c.args.tables.entries
