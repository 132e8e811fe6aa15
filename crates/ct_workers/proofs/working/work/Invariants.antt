use Rattle.std.proofs.Common.{◌≡◌, ◌<◌, ◌≤◌, ◌+◌, ◌-◌, ◌*◌, ℕ, None, get_or, length}
use Rattle.ct_workers.specs.{Known.{AreRight, IsWorker}, Rows.IsAnswerTo}
use Rattle.ct_workers.proofs.working.work.Given as goal

abbrev pub invariant-loop-number : goal.invariant-loop-number
invariant-loop-number g l = record {
  worker : IsWorker l.words l.worker;
  right : AreRight l.words l.row.items;
  each : (j : ℕ) → j < length l.row.items → IsAnswerTo l.words l.roots (l.first + j * l.step) (get_or l.row.items j None);
  here : l.number < length l.roots → l.number ≡ l.first + length l.row.items * l.step;
  past : length l.roots ≤ l.number → length l.roots ≤ l.first + length l.row.items * l.step;
}

abbrev pub decreases-loop-number : goal.decreases-loop-number
decreases-loop-number g l = length l.roots - l.number
