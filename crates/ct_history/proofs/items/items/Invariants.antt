use Rattle.std.{proofs.Common.{List, ℕ, ◌++◌}, specs.Prelude.{IsTrue, reverse}}
use Rattle.ct_history.specs.Items.{AreItems, is_place_of_list}
use Rattle.ct_history.proofs.items.items.Given as goal

abbrev pub invariant-loop-word : goal.invariant-loop-word
invariant-loop-word l = record {
  placed : IsTrue (is_place_of_list l.words l.rest);
  items : (xs : List ℕ) → AreItems l.words l.rest xs → AreItems l.words l.place (xs ++ reverse l.items.items);
}

abbrev pub decreases-loop-word : goal.decreases-loop-word
decreases-loop-word l = l.rest
