use Rattle.std.{proofs.Common.{◌≡◌, ◌++◌, map}, specs.Prelude.{All, IsTrue, reverse}}
use Rattle.ct_word.{specs.Reading.plain_crow, specs.WellFormed.is_place_of}
use Rattle.ct_history.{specs.Places.rows_at, specs.Rows.IsRowOf}
use Rattle.ct_word.specs.declared.kinds.Class.TheVariants as class
use Rattle.ct_history.proofs.written.rows.Given as goal

abbrev pub invariant-loop-alloc : goal.invariant-loop-alloc
invariant-loop-alloc l = record {
  list : IsTrue (is_place_of l.words class.RowList l.rest);
  same : rows_at l.words l.place ≡ rows_at l.words l.rest ++ map (plain_crow l.words) (reverse l.rows.items);
  placed : All (IsRowOf l.words) (reverse l.rows.items);
}

abbrev pub decreases-loop-alloc : goal.decreases-loop-alloc
decreases-loop-alloc l = l.rest
