use Rattle.std.proofs.Common.{◌≡◌, ◌≤◌, ◌++◌, drop}
use Rattle.ct_cut.{specs.Translation.steps_of, specs.Cut.cut}
use Rattle.ct_cut.proofs.translating.steps.Given as goal

abbrev pub invariant-loop-k : goal.invariant-loop-k
invariant-loop-k l = record {
  so_far : l.steps.items ++ cut l.numbers (drop l.k l.marks) (steps_of l.atoms (drop l.next l.origins) (drop l.k l.entries)) ≡ cut l.numbers l.marks (steps_of l.atoms l.origins l.entries);
  few : l.next ≤ l.k;
}
