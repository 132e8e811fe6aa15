use Rattle.std.{proofs.Common.{◌≡◌, ◌≤◌, [], map}, specs.Prelude.{None, vec_capacity}, specs.List.range_with_len}
use Rattle.ct_arena.specs.Counts.{opening}
use Rattle.ct_keeper.specs.Served.{first_pass}
use Rattle.ct_keeper.proofs.server.Server.make.Given as goal

abbrev pub invariant-loop : goal.invariant-loop
invariant-loop g l =
    record {
      keeper : l.keeper ≡ record { words = opening; enrolled = l.counter; guest = None; ended = [] };
      passes : l.passes.items ≡ map first_pass (range_with_len 1 l.counter);
      room : l.sessions ≤ vec_capacity l.passes;
    }
