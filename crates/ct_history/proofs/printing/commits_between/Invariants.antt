use Rattle.std.specs.Prelude.{All}
use Rattle.ct_history.specs.Commits.{StandsBetween}
use Rattle.ct_rewrite.specs.History.{IsCommitFormed}
use Rattle.ct_history.proofs.printing.commits_between.Given as goal

abbrev pub invariant-loop-place : goal.invariant-loop-place
invariant-loop-place l = record {
  stands : StandsBetween l.words l.from l.place l.commits.items;
  formed : All IsCommitFormed l.commits.items;
}
