use Rattle.std.{proofs.Common.{◌≡◌, length, true, Some}, specs.Prelude.{[]}}
use Rattle.ct_word.specs.Reading.{commits_of}
use Rattle.ct_arena.{specs.Counts.IsLog, specs.declared.tally.Tally.Tally, specs.Own.{IsOwn, with_seen}}
use mathlib.Core.List.{IsPrefix}
use Rattle.ct_arena.proofs.following.read_on.Given as goal

abbrev pub invariant-loop-place : goal.invariant-loop-place
invariant-loop-place l = record {
  table : l.token.table_id ≡ l.fn.token.table_id;
  chain : l.seen.room ≡ l.cap;
  place : l.place ≡ length l.seen.words;
  seat : l.token.me ≡ (with_seen l.fn.token.me.0 l.seen.words, []);
  longer : IsPrefix l.fn.seen.words l.seen.words;
  log : IsLog l.cap l.seen.words;
  own : (t : Tally) → l.fn.token.me.0.guest ≡ Some t → IsOwn l.cap t l.fn.seen.words → IsOwn l.cap t l.seen.words;
  commits : l.fn.token.me.0.keeps ≡ true → commits_of l.seen.words ≡ commits_of l.fn.seen.words;
}
