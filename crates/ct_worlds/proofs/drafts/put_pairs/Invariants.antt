use Rattle.ct_worlds.specs.Repaired.{Adds, IsNullOf, IsValueOf}
use Rattle.ct_worlds.proofs.drafts.put_pairs.Given as goal

abbrev pub invariant-loop-pair : goal.invariant-loop-pair
invariant-loop-pair l = record {
  values : Adds (IsValueOf l.pairs) l.initial.draft.values.keys l.draft.values.keys;
  nulls : Adds (IsNullOf l.pairs) l.initial.draft.nulls.keys l.draft.nulls.keys;
}
