use Rattle.std.proofs.Common.{◌≡◌, length, drop}
use Rattle.ct_query.specs.Updates.{with_items}
use Rattle.ct_table.proofs.listed.Listed.with_rows.Given as goal

abbrev pub invariant-loop-place : goal.invariant-loop-place
invariant-loop-place l = record {
  long : length l.all ≡ length l.fn.self.rows;
  rest : with_items (drop (length l.yielded) l.fn.rows.items) l.all ≡ with_items l.fn.rows.items l.fn.self.rows;
}
