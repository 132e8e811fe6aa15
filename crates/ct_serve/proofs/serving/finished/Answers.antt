use Rattle.std.{proofs.Common.{ap, subst, length, arith}, specs.Prelude.All, specs.Vec.Iter.into_iter_items, proofs.lemmas.List.Elements.All-tail}
use Rattle.ct_serve.{specs.Progress.HasRun, proofs.Clients.{moved, ended_push}}
use Rattle.ct_serve.proofs.serving.finished.Goals as goal

pub loop-client-preserved : goal.loop-client-preserved
loop-client-preserved g c =
    let i = c.loop-client.invariant in
    let steps = c.in-Some.ensures.steps in
    let N = g.N.Site.log.cap in
    let rest = into_iter_items c.next.new.self in
    let run = subst (All (HasRun N)) steps.0 i.run in
    let shorter = ap length steps.0 in
    record {
      ended = ended_push N _ _ _ _ c.in-Some-finish.pass c.in-Some-finish.log i.ended c.in_ok-push.ensures.items c.in_ok-push-2.ensures.items c.in-Some-finish.ensures.ended;
      numbers = moved _ _ _ _ _ _ _ _ _ i.numbers steps.0 c.in_ok-push.ensures.items c.in-Some-finish.ensures.number;
      scripts = moved _ _ _ _ _ _ _ _ _ i.scripts steps.0 c.in_ok-push-2.ensures.items c.in-Some-finish.ensures.script;
      run = All-tail (HasRun N) c.in-Some.client rest run;
      len = let n = i.len in omega (arith, n, steps.1, shorter);
    }
