use Rattle.std.{proofs.Common.{◌≡◌, ◌<◌, ◌≤◌, ◌/◌, ◌%◌, ℕ, Some, get_or}, specs.Prelude.vec_len}
use Rattle.ct_workers.specs.Dealing.{item_at}
use Rattle.ct_workers.proofs.dealing.put_back.Given as goal

abbrev pub invariant-loop-number : goal.invariant-loop-number
invariant-loop-number g l = record {
  rows : vec_len l.rows ≡ l.width;
  done : vec_len l.all ≡ l.number;
  each : (q : ℕ) (d : _) → q < l.number → item_at (λ r. r.items) l.fn.dealt.items (q % l.width) (q / l.width) ≡ Some (get_or l.all.items q d);
  left : (q : ℕ) → l.number ≤ q → item_at (λ r. r.items) l.rows.items (q % l.width) (q / l.width) ≡ item_at (λ r. r.items) l.fn.dealt.items (q % l.width) (q / l.width);
}
