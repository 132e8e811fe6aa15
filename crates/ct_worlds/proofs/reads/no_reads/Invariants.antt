use Rattle.std.proofs.Common.{ℕ, List}
use Rattle.ct_word.specs.Value.{World}
use Rattle.ct_worlds.specs.Valuation.{AreRead}
use Rattle.ct_worlds.proofs.reads.no_reads.Given as goal

abbrev pub invariant-loop : goal.invariant-loop
invariant-loop l = (words : List ℕ) (v : World) → AreRead words v l.reads.items
