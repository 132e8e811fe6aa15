use Rattle.std.{proofs.Common.{◌≡◌, take}, specs.Prelude.vec_capacity}
use Rattle.ct_arena.proofs.lists.note.Given as goal

abbrev pub invariant-loop-place : goal.invariant-loop-place
invariant-loop-place l = record {
  words : l.words.items ≡ take l.place l.ahead;
  room : vec_capacity l.words ≡ vec_capacity l.fn.words;
}
