use Rattle.std.proofs.Common.{◌+◌, ◌≤◌, take}
use Rattle.ct_keeper.{specs.Bounds.first_words, specs.Steps.Interns, proofs.Making.IsApplied}
use Rattle.ct_keeper.proofs.committing.applied_all.Given as goal

abbrev pub invariant-loop-change : goal.invariant-loop-change
invariant-loop-change g l = record {
  interns : Interns l.fn.keeper l.fn.guest l.keeper l.guest;
  applied : IsApplied l.fn.keeper.words l.keeper.words l.content l.changes l.change-index l.made;
  words : l.guest.made ≤ l.fn.guest.made + first_words l.fn.keeper.words l.changes (take l.change-index l.changes);
}
