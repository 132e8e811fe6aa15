use Rattle.std.{proofs.Common.{ℕ, take}, specs.Prelude.{Contains, IsTrue}}
use Rattle.ct_word.specs.declared.values.Null.{Null}
use Rattle.ct_worlds.specs.Nulls.{AreNulls, HasTerms, IsNullBelow, has_null}
use Rattle.ct_worlds.proofs.nulls.nulls_below.Given as goal

abbrev pub invariant-loop-place : goal.invariant-loop-place
invariant-loop-place l = record {
  nulls : AreNulls l.words l.nulls;
  noted : (e : ℕ) → Contains (take l.place-index l.places) e → HasTerms l.words e l.nulls;
  only : (n : Null) → IsTrue (has_null l.nulls.listed.keys n) → IsNullBelow l.words l.places n;
}
