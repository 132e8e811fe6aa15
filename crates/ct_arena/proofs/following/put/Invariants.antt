use Rattle.std.{proofs.Common.{◌≡◌, length, true, []}, specs.Prelude.Contains}
use Rattle.ct_word.specs.Reading.{commits_of}
use Rattle.ct_arena.specs.Own.{IsOwn, with_seen, with_guest}
use mathlib.Core.List.{IsPrefix}
use Rattle.ct_arena.proofs.following.put.Given as goal

abbrev pub invariant-loop-place : goal.invariant-loop-place
invariant-loop-place l = record {
  table : l.token.table_id ≡ l.fn.token.table_id;
  chain : l.seen.room ≡ l.cap;
  place : l.place ≡ length l.seen.words;
  tally : l.tally ≡ l.fn.tally;
  seat : l.token.me ≡ (with_seen (with_guest l.fn.token.me.0 l.fn.tally) l.seen.words, []);
  longer : IsPrefix l.fn.seen.words l.seen.words;
  own : IsOwn l.cap l.fn.tally l.seen.words;
  commits : l.fn.token.me.0.keeps ≡ true → commits_of l.seen.words ≡ commits_of l.fn.seen.words;
  absent : Contains l.seen.words l.w → ⊥;
}
