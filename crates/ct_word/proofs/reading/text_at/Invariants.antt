use Rattle.std.{proofs.Common.{◌≡◌, ◌++◌}, specs.Prelude.IsTrue}
use Rattle.ct_word.{specs.WellFormed.is_place_of, specs.WordAt.{text_at, backwards}}
use Rattle.ct_word.specs.declared.kinds.Class.TheVariants as class
use Rattle.ct_word.proofs.reading.text_at.Given as goal

abbrev pub invariant-loop-characters : goal.invariant-loop-characters
invariant-loop-characters l = record {
  placed : IsTrue (is_place_of l.words class.Text l.rest);
  text : text_at l.words l.place ≡ text_at l.words l.rest ++ backwards l.characters.items;
}

abbrev pub decreases-loop-characters : goal.decreases-loop-characters
decreases-loop-characters l = l.rest
