use Rattle.std.{proofs.Common.{◌≡◌, ◌++◌, replicate}, specs.Prelude.vec_capacity}
use Rattle.ct_arena.proofs.sharing.fill_words.Given as goal

abbrev pub invariant-loop : goal.invariant-loop
invariant-loop l = (l.first.items ≡ l.initial.first.items ++ replicate l.counter 0) × (vec_capacity l.first ≡ vec_capacity l.initial.first)
