use Rattle.ct_serve.proofs.Clients.{executed_at}
use Rattle.ct_serve.proofs.serving.execute_on.Goals as goal

pub returns-clause-each : goal.returns-clause-each
returns-clause-each g c = λ k d lt.
    let h = (c.for_each_mut.ensures k d lt).1 in
    executed_at g.N.Site.log.cap _ _ _ _ h.argument_is h.left h.call
