use Rattle.std.{proofs.Common.{◌≡◌, map}, specs.Prelude.{All, None}}
use Rattle.ct_word.specs.Reading.{commits_of}
use Rattle.ct_arena.specs.Seen.{tally_of}
use mathlib.Core.List.{IsPrefix}
use Rattle.ct_keeper.proofs.server.Server.close.Given as goal

abbrev pub invariant-loop-pass : goal.invariant-loop-pass
invariant-loop-pass g l =
    record {
      guest : l.keeper.guest ≡ None;
      enrolled : l.keeper.enrolled ≡ g.N.Site.sessions;
      ended : l.keeper.ended ≡ map tally_of l.yielded;
      commits : commits_of l.keeper.words ≡ commits_of l.initial.keeper.words;
      seen : All (λ p. IsPrefix p.words l.keeper.words) l.yielded;
    }
