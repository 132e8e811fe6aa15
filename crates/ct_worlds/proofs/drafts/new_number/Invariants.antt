use Rattle.std.proofs.Common.{◌≡◌, ◌-◌, ◌≤◌}
use Rattle.ct_worlds.specs.Repaired.{Adds, IsFrom}
use Rattle.ct_worlds.proofs.drafts.new_number.Given as goal

abbrev pub invariant-loop-k : goal.invariant-loop-k
invariant-loop-k l = record {
  values : Adds (IsFrom l.initial.next) l.initial.draft.values.keys l.draft.values.keys;
  next : l.initial.next ≤ l.k;
  nulls : l.draft.nulls.keys ≡ l.initial.draft.nulls.keys;
}

abbrev pub decreases-loop-k : goal.decreases-loop-k
decreases-loop-k l = 268435456 - l.k
