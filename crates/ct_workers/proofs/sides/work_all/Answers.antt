use Rattle.std.proofs.Common.{subst}
use Rattle.ct_workers.specs.Rows.{HasWorked}
use Rattle.ct_workers.proofs.sides.work_all.Goals as goal

pub returns-clause-each : goal.returns-clause-each
returns-clause-each g c = λ k d lt.
    let h = (c.for_each_mut.ensures k d lt).1 in
    subst (HasWorked c.args.words.now c.args.roots.now c.args.step k) h.left h.call
