use Rattle.std.proofs.Common.{◌≡◌, length, take}
use Rattle.ct_worlds.specs.Valuation.{AreRead}
use Rattle.ct_worlds.specs.Truths.{HaveTruths, found_in}
use Rattle.ct_worlds.proofs.holding.truths.Given as goal

abbrev pub invariant-loop-place : goal.invariant-loop-place
invariant-loop-place l = record {
  truths : HaveTruths l.words l.valuation.listed.now (take l.place-index l.places) (found_in l.truths);
  places : l.truths.places.now ≡ l.places;
  reads : AreRead l.words l.valuation.listed.now l.reads.items;
  long : length l.truths.known.items ≡ l.place-index;
}
