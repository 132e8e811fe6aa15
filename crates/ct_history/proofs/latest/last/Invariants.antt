use Rattle.std.{proofs.Common.{◌≡◌, ◌≤◌, length, take}, specs.Prelude.filter_map}
use Rattle.ct_word.specs.Reading.{as_commit, meanings}
use Rattle.ct_query.specs.Reads.{last}
use Rattle.ct_history.proofs.latest.last.Given as goal

abbrev pub invariant-loop-place : goal.invariant-loop-place
invariant-loop-place l = record {
  seen : length (filter_map as_commit (take l.place (meanings l.words))) ≡ l.seen;
  few : l.seen ≤ l.upto;
  found : l.found ≡ last (filter_map as_commit (take l.place (meanings l.words))) l.table;
}
