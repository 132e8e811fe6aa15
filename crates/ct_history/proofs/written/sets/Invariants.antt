use Rattle.std.{proofs.Common.{◌≡◌, map, take}, specs.Prelude.{All, IsTrue}}
use Rattle.ct_word.specs.WellFormed.{is_place_of}
use Rattle.ct_history.{specs.Places.set_at, specs.Written.plain_set}
use Rattle.ct_word.specs.declared.kinds.Class.TheVariants as class
use Rattle.ct_history.proofs.written.sets.Given as goal

abbrev pub invariant-loop-item : goal.invariant-loop-item
invariant-loop-item l = record {
  same : map (plain_set l.words) l.sets.items ≡ map (set_at l.words) (take l.item-index l.item-items);
  placed : All (λ s. IsTrue (is_place_of l.words class.Term s.1)) l.sets.items;
}
