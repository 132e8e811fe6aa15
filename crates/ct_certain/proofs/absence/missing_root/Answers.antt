use Rattle.std.proofs.Common.{length, sym, ◌∙◌}
use Rattle.ct_condition.proofs.Writes.{writes_none}
use Rattle.ct_certain.proofs.Always.{sure_root}
use Rattle.ct_certain.proofs.absence.missing_root.Goals as goal

pub returns-then-contains-clause-root : goal.returns-then-contains-clause-root
returns-then-contains-clause-root g c =
    let words = g.I.Interner.list c.args.pass.now in
    sure_root words words c.args.global (length c.args.table.now.columns) c.args.table.now.rows c.args.sure.now.keys c.args.tuple.now c.words.ensures.begins c.words.ensures.formed c.requires.sure
    (sym c.if-contains.true ∙ c.contains.ensures)

pub returns-then-contains-clause-writes : goal.returns-then-contains-clause-writes
returns-then-contains-clause-writes g c = writes_none _ c.words.ensures.formed c.words.ensures.room
