use Rattle.std.{proofs.Common.{◌≡◌, length, true}, specs.Prelude.{[], vec_capacity}}
use Rattle.ct_word.specs.Reading.{commits_of}
use Rattle.ct_arena.{specs.Counts.IsLog, specs.Own.with_seen}
use mathlib.Core.List.{IsPrefix}
use Rattle.ct_arena.proofs.following.read_rest.Given as goal

abbrev pub invariant-loop-place : goal.invariant-loop-place
invariant-loop-place l = record {
  table : l.token.table_id ≡ l.fn.token.table_id;
  list : vec_capacity l.seen ≡ vec_capacity l.fn.seen;
  place : l.place ≡ length l.seen.items;
  seat : l.token.me ≡ (with_seen l.fn.token.me.0 l.seen.items, []);
  longer : IsPrefix l.fn.seen.items l.seen.items;
  log : IsLog l.cap l.seen.items;
  commits : l.fn.token.me.0.keeps ≡ true → commits_of l.seen.items ≡ commits_of l.fn.seen.items;
}
