use Rattle.std.proofs.Common.{◌≡◌, ◌⊎◌, map, take}
use Rattle.std.specs.Prelude.{Contains}
use Rattle.ct_word.specs.Value.{other_zero}
use Rattle.ct_worlds.specs.Repaired.{Each}
use Rattle.ct_worlds.proofs.drafts.pairs_of.Given as goal

abbrev pub invariant-loop-at : goal.invariant-loop-at
invariant-loop-at l = record {
  nulls : map (λ p. p.0) l.pairs.items ≡ take l.at l.nulls;
  values : Each (λ p. Contains l.draft.values.keys p.1 ⊎ (p.1 ≡ other_zero)) l.pairs.items;
}
