use Rattle.ct_serve.proofs.Clients.{executed_parts, ready_left, ready_right}
use Rattle.ct_serve.proofs.serving.execute_all.Goals as goal

pub execute_on-requires-clause-ready : goal.execute_on-requires-clause-ready
execute_on-requires-clause-ready g c κs within =
    let cut = c.split_at_mut-alone in
    ready_left c.args.clients.now cut.result.0.now cut.result.1.now cut.ensures.value c.requires.ready

pub execute_on-requires-2-clause-ready : goal.execute_on-requires-2-clause-ready
execute_on-requires-2-clause-ready g c κs within =
    let cut = c.split_at_mut-alone in
    ready_right c.args.clients.now cut.result.0.now cut.result.1.now cut.ensures.value c.requires.ready

pub returns-clause-each : goal.returns-clause-each
returns-clause-each g c =
    let cut = c.split_at_mut-alone in
    executed_parts g.N.Site.log.cap c.args.clients.now _ _ _ _ cut.ensures.value c.execute_on.ensures.count c.execute_on.ensures.each c.execute_on-2.ensures.each
