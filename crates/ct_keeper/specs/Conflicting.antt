-- What an offer is found to be, before the last writer at its base is looked for.
use Rattle.std.specs.Prelude.{ℕ, List, take, Result, Ok, Err}
use Rattle.ct_word.specs.Change.{PlainCommit}
use Rattle.ct_query.specs.declared.action.Read.{Read}
use Rattle.ct_query.specs.Reads.{last}
use Rattle.ct_keeper.specs.declared.catalogue.Outcome.{Outcome}
use Rattle.ct_keeper.specs.declared.catalogue.Outcome.TheVariants as outcome
use Rattle.ct_keeper.specs.declared.error.KeeperError.{KeeperError}
use Rattle.ct_keeper.specs.declared.verdict.Verdict.{Verdict}
use Rattle.ct_keeper.specs.declared.verdict.Verdict.TheVariants as verdict
use Rattle.ct_keeper.specs.Offers.{IsConflict}

-- the outcome for a history and a base
abbrev pub told : List PlainCommit → ℕ → Verdict → Outcome
told h base (verdict.Committed m) = outcome.Committed m
told h base verdict.Nothing = outcome.Nothing
told h base (verdict.Conflict table now at) = outcome.Conflict table (last (take base h) table) now at

-- the same where an error may stand in its place
abbrev pub told_or : List PlainCommit → ℕ → Result Verdict KeeperError → Result Outcome KeeperError
told_or h base (Ok v) = Ok (told h base v)
told_or h base (Err e) = Err e

-- a verdict is the conflict of these reads at this base with the commits of a history
abbrev pub IsConflictAfter : List PlainCommit → ℕ → List Read → Verdict → Type 0
IsConflictAfter h base reads (verdict.Conflict table now at) = IsConflict h base reads table (last (take base h) table) now at
IsConflictAfter h base reads _ = ⊥
