use Rattle.std.{proofs.Common.{◌≡◌, ◌++◌, map}, specs.Prelude.{All, IsTrue, reverse}}
use Rattle.ct_word.{specs.Reading.change_list_at, specs.WellFormed.is_place_of}
use Rattle.ct_history.specs.Written.{IsWritten, plain_written}
use Rattle.ct_word.specs.declared.kinds.Class.TheVariants as class
use Rattle.ct_history.proofs.written.changes_at.Given as goal

abbrev pub invariant-loop-alloc : goal.invariant-loop-alloc
invariant-loop-alloc l = record {
  list : IsTrue (is_place_of l.words class.ChangeList l.rest);
  same : change_list_at l.words l.list ≡ change_list_at l.words l.rest ++ map (plain_written l.words) (reverse l.changes.items);
  placed : All (IsWritten l.words) (reverse l.changes.items);
}

abbrev pub decreases-loop-alloc : goal.decreases-loop-alloc
decreases-loop-alloc l = l.rest
