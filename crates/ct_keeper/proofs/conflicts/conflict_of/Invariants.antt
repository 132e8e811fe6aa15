use Rattle.std.proofs.Common.{ℕ, List, take}
use Rattle.ct_word.specs.Reading.{commits_of}
use Rattle.ct_keeper.{specs.Latest.IsLatest, specs.Offers.AreUnchanged}
use Rattle.ct_keeper.proofs.conflicts.conflict_of.Given as goal

abbrev pub invariant-loop-read : goal.invariant-loop-read
invariant-loop-read l = (words : List ℕ) → IsLatest words l.latest → AreUnchanged (commits_of words) l.base (take l.read-index l.reads)
