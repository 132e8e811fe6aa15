use Rattle.std.{proofs.Common.{◌≡◌, ◌+◌, length}, specs.Prelude.Contains}
use Rattle.ct_near.{specs.declared.index.Entry.Entry, specs.Entries.IsEntryOf, specs.Walks.AreOld, proofs.Entries.AreIndexedTo}
use Rattle.ct_near.proofs.indexing.index_of.Given as goal

abbrev pub invariant-loop-number : goal.invariant-loop-number
invariant-loop-number l = record {
  room : length l.walks.marks.items ≡ length l.initial.walks.marks.items;
  old : AreOld l.walks.marks.items (l.number + 2);
  indexed : AreIndexedTo l.words l.places l.found.index.entries.items l.number;
  only : (e : Entry) → Contains l.found.index.entries.items e → IsEntryOf l.words l.places e;
}
