use Rattle.std.{proofs.Common.{◌≡◌, ◌+◌, ◌++◌, length, map, take}, specs.Vec.Iter.{into_iter_items, into_iter_len}}
use Rattle.ct_serve.proofs.serving.clients_of.Given as goal

abbrev pub invariant-loop-pass : goal.invariant-loop-pass
invariant-loop-pass g l =
    let rest = into_iter_items l.pass-iterator in
    record {
      passes : map (λ c. c.pass) l.clients.items ++ rest ≡ l.fn.passes.items;
      scripts : map (λ c. c.script) l.clients.items ≡ take (length l.clients.items) l.scripts;
      count : length l.clients.items + length rest ≡ length l.scripts;
      len : into_iter_len l.pass-iterator ≡ length rest;
    }
