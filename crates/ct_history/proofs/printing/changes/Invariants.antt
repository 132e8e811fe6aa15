use Rattle.std.{proofs.Common.{◌≡◌, ◌++◌, length}, specs.Prelude.{All, flat_map}, specs.Vec.Iter.{into_iter_items, into_iter_len}}
use Rattle.ct_history.{specs.Printed.{changes_with, conds_of}, specs.Written.IsWritten}
use Rattle.ct_history.proofs.printing.changes.Given as goal

abbrev pub invariant-loop-item : goal.invariant-loop-item
invariant-loop-item l =
    let items = into_iter_items l.item-iterator in
    record {
      same : l.out.items ++ changes_with l.words items l.rest ≡ changes_with l.words l.fn.changes l.positions;
      long : length l.rest ≡ length (flat_map conds_of items);
      placed : All (IsWritten l.words) items;
      count : into_iter_len l.item-iterator ≡ length items;
    }
