use Rattle.std.proofs.Common.{◌≡◌, map}
use Rattle.ct_workers.proofs.sides.decisions.Given as goal

abbrev pub invariant-loop-answer : goal.invariant-loop-answer
invariant-loop-answer l = l.list.items ≡ map (λ a. a.decision) l.yielded
