use Rattle.std.proofs.Common.{◌≡◌, ◌≤◌}
use Rattle.ct_worlds.specs.Repaired.{Adds, IsFrom}
use Rattle.ct_worlds.proofs.drafts.part_all.Given as goal

abbrev pub invariant-loop-link : goal.invariant-loop-link
invariant-loop-link l = record {
  values : Adds (IsFrom l.from) l.initial.draft.values.keys l.draft.values.keys;
  next : l.from ≤ l.next;
  nulls : l.draft.nulls.keys ≡ l.initial.draft.nulls.keys;
}
