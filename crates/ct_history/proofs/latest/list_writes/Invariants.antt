use Rattle.std.{proofs.Common.{◌≡◌}, specs.Prelude.IsTrue, specs.List.list_any}
use Rattle.ct_word.{specs.Reading.change_list_at, specs.WellFormed.is_place_of}
use Rattle.ct_query.specs.Reads.{writes}
use Rattle.ct_word.specs.declared.kinds.Class.TheVariants as class
use Rattle.ct_history.proofs.latest.list_writes.Given as goal

abbrev pub invariant-loop-word : goal.invariant-loop-word
invariant-loop-word l = record {
  placed : IsTrue (is_place_of l.words class.ChangeList l.rest);
  same : list_any (λ x. writes x l.read) (change_list_at l.words l.place) ≡ list_any (λ x. writes x l.read) (change_list_at l.words l.rest);
}

abbrev pub decreases-loop-word : goal.decreases-loop-word
decreases-loop-word l = l.rest
