use Rattle.std.proofs.Common.{◌≡◌, ◌≤◌, ◌++◌, length, drop}
use Rattle.ct_cert.{specs.{Alike.Alike, Numbered.AreLow}, proofs.Noted.AreKept}
use Rattle.ct_cert.proofs.repeats.distinct.Given as goal

abbrev pub invariant-loop-literal : goal.invariant-loop-literal
invariant-loop-literal l = record {
  alike : Alike l.clause (l.kept.items ++ drop l.literal-index l.clause);
  room : l.noted.room ≡ length l.clause;
  few : length l.noted.words ≤ l.literal-index;
  kept : AreLow l.clause → AreKept l.noted.words l.kept.items;
}
