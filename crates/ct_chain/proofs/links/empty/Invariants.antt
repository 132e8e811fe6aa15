use Rattle.std.{proofs.Common.{◌≡◌, replicate}, specs.Prelude.vec_capacity}
use Rattle.ct_chain.proofs.links.empty.Given as goal

abbrev pub invariant-loop : goal.invariant-loop
invariant-loop l = (l.heads.items ≡ replicate l.counter 0) × (vec_capacity l.heads ≡ vec_capacity l.initial.heads)
