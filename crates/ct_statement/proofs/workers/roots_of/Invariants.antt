use Rattle.std.proofs.Common.{◌≡◌, map, take}
use Rattle.ct_questions.specs.declared.tuples.Candidate.{Candidate}
use Rattle.ct_statement.proofs.workers.roots_of.Given as goal

abbrev pub invariant-loop-candidate : goal.invariant-loop-candidate
invariant-loop-candidate l = l.roots.items ≡ map (λ (c : Candidate). c.root) (take l.candidate-index l.candidates)
