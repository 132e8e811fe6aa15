use Rattle.std.proofs.Common.{ap, sym, ◌∙◌}
use Rattle.ct_table.{specs.Denotes.find_table, proofs.Shared.{found_entry, its_view}}
use Rattle.ct_table.proofs.db.Db.get.Goals as goal

pub returns-in-Some : goal.returns-in-Some
returns-in-Some c =
    ap (λ d. find_table d c.args.name.now) (sym c.self.view_is) ∙ found_entry c.args.name.now c.self.inside.tables.entries ∙ ap (its_view c.args.name.now) (sym c.in-Some.ensures.value)

pub returns-in-None : goal.returns-in-None
returns-in-None c =
    ap (λ d. find_table d c.args.name.now) (sym c.self.view_is) ∙ found_entry c.args.name.now c.self.inside.tables.entries ∙ ap (its_view c.args.name.now) (sym c.in-None.ensures.value)
