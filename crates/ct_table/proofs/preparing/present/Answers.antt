use Rattle.std.proofs.Common.{sym, ◌∙◌}
use Rattle.ct_table.proofs.Putting.{find_among, find_after}
use Rattle.ct_table.proofs.preparing.present.Goals as goal

pub returns-in-Some : goal.returns-in-Some
returns-in-Some c = sym (find_among c.args.cells.now c.in-Some.cond.now c.args.pending.now.entries c.args.stored.now.entries c.requires (sym c.in-Some.ensures.value))

pub returns-in-None : goal.returns-in-None
returns-in-None c = c.find.ensures ∙ sym (find_after c.args.cells.now c.args.pending.now.entries c.args.stored.now.entries (sym c.in-None.ensures.value))
