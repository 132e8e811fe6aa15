use Rattle.std.proofs.Common.{length}
use Rattle.ct_table.proofs.Joining.{grown_inserted}
use Rattle.ct_table.proofs.preparing.prepared.Goals as goal

pub returns-clause-inserted : goal.returns-clause-inserted
returns-clause-inserted g c =
    let done = c.in_ok-puts.ensures.gathered in
    grown_inserted (g.I.Interner.list c.args.pass.now) (g.I.Interner.list c.gathered.new.pass) (length c.args.stored.now.columns) c.args.stored.now.entries c.in_ok-puts.puts.items c.args.rows.now
    c.words-2.ensures.begins c.words-2.ensures.formed done.apart done.fits c.requires.table.possible done.gathers
