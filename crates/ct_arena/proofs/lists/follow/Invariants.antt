use Rattle.std.proofs.Common.{◌≡◌, take}
use Rattle.ct_arena.proofs.lists.follow.Given as goal

abbrev pub invariant-loop-place : goal.invariant-loop-place
invariant-loop-place l = l.list ≡ record { room = l.fn.list.room; words = take l.place l.ahead }
