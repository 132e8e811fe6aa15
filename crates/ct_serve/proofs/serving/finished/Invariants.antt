use Rattle.std.{proofs.Common.{◌≡◌, ◌++◌, length, map}, specs.Prelude.All, specs.List.AllZip, specs.Vec.Iter.{into_iter_items, into_iter_len}}
use Rattle.ct_serve.specs.Progress.{HasRun, HasEnded}
use Rattle.ct_serve.proofs.serving.finished.Given as goal

abbrev pub invariant-loop-client : goal.invariant-loop-client
invariant-loop-client g l =
    let N = g.N.Site.log.cap in
    let rest = into_iter_items l.client-iterator in
    record {
      ended : AllZip (HasEnded N) l.passes.items l.logs.items;
      numbers : map (λ p. p.session) l.passes.items ++ map (λ c. c.pass.session) rest ≡ map (λ c. c.pass.session) l.fn.clients.items;
      scripts : map (λ log. log.script) l.logs.items ++ map (λ c. c.script) rest ≡ map (λ c. c.script) l.fn.clients.items;
      run : All (HasRun N) rest;
      len : into_iter_len l.client-iterator ≡ length rest;
    }
