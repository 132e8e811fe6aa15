use Rattle.ct_word.specs.WellFormed.{IsWellFormed}
use Rattle.ct_samples.proofs.logs.log.Given as goal

abbrev pub invariant-loop-kind : goal.invariant-loop-kind
invariant-loop-kind l = IsWellFormed l.words.items
