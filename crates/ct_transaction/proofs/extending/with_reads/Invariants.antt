use Rattle.std.{proofs.Common.{◌≡◌, ◌+◌, ◌≤◌, length}, specs.Prelude.{vec_len, vec_capacity}, specs.Vec.Iter.{into_iter_items, into_iter_len}}
use Rattle.ct_query.specs.Reads.{with_reads}
use Rattle.ct_transaction.proofs.extending.with_reads.Given as goal

abbrev pub invariant-loop-read : goal.invariant-loop-read
invariant-loop-read l = record {
  added : with_reads l.all.items (into_iter_items l.read-iterator) ≡ with_reads l.fn.reads.items l.fn.more;
  room : vec_len l.all + into_iter_len l.read-iterator ≤ vec_capacity l.all;
  count : into_iter_len l.read-iterator ≡ length (into_iter_items l.read-iterator);
}
