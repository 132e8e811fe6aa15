use Rattle.std.{proofs.Common.{ap, sym, ◌∙◌}, specs.Prelude.slice_get}
use Rattle.ct_table.{specs.Growing.Keyed, proofs.Putting.row_found}
use Rattle.ct_table.proofs.stored.Stored.row.Goals as goal

pub returns : goal.returns
returns c =
    let r = c.at.result.now in
    row_found c.args.self.now.entries c.args.place r (sym (ap (λ (k : Keyed). slice_get k.entries c.args.place) c.self.view_is) ∙ c.at.ensures)
