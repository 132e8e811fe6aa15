use Rattle.std.{proofs.Common.{◌≡◌, ◌++◌, length}, specs.Prelude.{All, ◌≤◌}, specs.Vec.Iter.{into_iter_items, into_iter_len}}
use Rattle.ct_outside.specs.Reads.{bytes_in}
use Rattle.ct_run.specs.Scripts.{SCRIPT_BYTES, IsScript}
use Rattle.ct_run.proofs.reading.as_scripts.Given as goal

abbrev pub invariant-loop-bytes : goal.invariant-loop-bytes
invariant-loop-bytes l = record {
  split : l.scripts.items ++ bytes_in (into_iter_items l.bytes-iterator) ≡ bytes_in l.fn.texts.items;
  scripts : All IsScript l.scripts.items;
  short : All (λ text. length text ≤ SCRIPT_BYTES) (bytes_in (into_iter_items l.bytes-iterator));
  count : into_iter_len l.bytes-iterator ≡ length (into_iter_items l.bytes-iterator);
}
