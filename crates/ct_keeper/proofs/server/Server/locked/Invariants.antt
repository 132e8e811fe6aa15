use Rattle.std.proofs.Common.{◌≡◌}
use Rattle.ct_word.specs.WellFormed.{IsWellFormed}
use mathlib.Core.List.{IsPrefix}
use Rattle.ct_keeper.proofs.server.Server.locked.Given as goal

abbrev pub invariant-loop : goal.invariant-loop
invariant-loop g l = record {
  longer : IsPrefix l.fn.pass.words l.pass.words;
  formed : IsWellFormed l.pass.words;
  session : l.pass.session ≡ l.fn.pass.session;
  made : l.pass.made ≡ l.fn.pass.made;
  mine : l.pass.mine ≡ l.fn.pass.mine;
}
