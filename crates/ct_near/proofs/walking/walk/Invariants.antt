use Rattle.std.proofs.Common.{◌≡◌, ◌≤◌, ℕ, length, get_or}
use Rattle.ct_near.{specs.Entries.Extends, specs.Walks.{IsEntryFrom, IsTracingOn, IsWalking}, proofs.Steps.weight}
use Rattle.ct_near.proofs.walking.walk.Given as goal

abbrev pub invariant-loop-place : goal.invariant-loop-place
invariant-loop-place l = record {
  walking : IsWalking l.words l.way l.root l.number l.walks.marks.items l.walks.waiting.items l.found;
  tracing : IsTracingOn l.words l.way l.root l.number l.walks.marks.items l.walks.waiting.items l.found;
  room : length l.walks.marks.items ≡ length l.initial.walks.marks.items;
  low : (p : ℕ) → get_or l.walks.marks.items p 0 ≤ l.number;
  added : Extends (IsEntryFrom l.words l.way l.root) l.initial.found.index.entries.items l.found.index.entries.items;
}

abbrev pub decreases-loop-place : goal.decreases-loop-place
decreases-loop-place l = weight l.walks.waiting.items
