use Rattle.std.proofs.Common.{ap, sym, ◌∙◌}
use Rattle.ct_rows.{specs.Entries.find, proofs.Entries.find_first}
use Rattle.ct_rows.proofs.rows.Rows.find.Goals as goal

pub returns : goal.returns
returns c =
    let es = c.self.inside.links.entries in
    sym (ap (λ k. find k c.args.self.now) (sym c.as_slice.ensures) ∙ ap (find c.as_slice.result.now) (sym c.self.view_is)
    ∙ find_first c.as_slice.result.now es c.in_ok-place.place c.at.result.now.cells c.at.result.now.cond c.in_ok-place.ensures c.at.ensures)
