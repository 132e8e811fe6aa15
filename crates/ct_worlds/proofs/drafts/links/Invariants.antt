use Rattle.ct_worlds.specs.Repaired.{Adds, IsNullSide, IsSide}
use Rattle.ct_worlds.proofs.drafts.links.Given as goal

abbrev pub invariant-loop-wish : goal.invariant-loop-wish
invariant-loop-wish l = record {
  values : Adds (IsSide l.words l.wishes) l.initial.draft.values.keys l.draft.values.keys;
  nulls : Adds (IsNullSide l.words l.wishes) l.initial.draft.nulls.keys l.draft.nulls.keys;
}
