-- The world that an offer has, and what became of it; how a statement goes on to its offer.
use Rattle.std.specs.Prelude.{◌≡◌, ◌≤◌, ℕ, [], length, Option, Some, None, Result, Ok, Err}
use mathlib.Core.List.{IsPrefix}
use Rattle.ct_word.specs.Reading.{commits_of}
use Rattle.ct_arena.specs.Counts.{AreNumbered}
use Rattle.ct_arena.specs.Seen.{Seen}
use Rattle.ct_condition.specs.Writes.{kept_of}
use Rattle.ct_word.specs.Value.{World}
use Rattle.ct_statement.specs.Proposals.{kept_after}
use Rattle.ct_statement.specs.declared.stepping.Step.{Step}
use Rattle.ct_keeper.specs.declared.catalogue.Outcome.{Outcome}
use Rattle.ct_keeper.specs.declared.catalogue.Outcome.TheVariants as outcome
use Rattle.ct_keeper.specs.declared.error.KeeperError.{KeeperError}
use Rattle.ct_keeper.specs.declared.error.KeeperError.TheVariants as fault
use Rattle.ct_transcript.specs.declared.reply.Refusal.{Refusal}
use Rattle.ct_transcript.specs.declared.reply.Refusal.TheVariants as refusal

-- the world that the offer of an action has: the kept one after its step; where no step was made, the one that lists nothing
abbrev pub world_offered : World → Option Step → World
world_offered kept None = []
world_offered kept (Some step) = kept_after kept step.kept

-- a statement that began with one pass goes on with another: its version has all commits of the words with which it began,
-- the words only grew, and the session has as many commits
pub record Begins (first pass : Seen) (version : ℕ) : Type 0 where
  pub longer : IsPrefix first.words pass.words
  pub kept : kept_of pass ≡ kept_of first
  pub numbered : AreNumbered first.session first.mine first.words
  pub all : length (commits_of first.words) ≤ version

-- a statement outside a transaction that began with one pass goes on with another, by which nothing was committed
pub record Starts (first pass : Seen) : Type 0 where
  pub longer : IsPrefix first.words pass.words
  pub kept : kept_of pass ≡ kept_of first
  pub numbered : AreNumbered first.session first.mine first.words

-- the number of the last null after an offer: those that an action drew are the session's once it is committed
abbrev pub fresh_after : ℕ → ℕ → Result Outcome KeeperError → ℕ
fresh_after fresh drawn (Ok (outcome.Committed m)) = drawn
fresh_after fresh drawn _ = fresh

-- an offer became a commit, or the log is full, or memory is wanting: it met no conflict, and had changes
abbrev pub CommitsOrWants : Result Outcome KeeperError → Type 0
CommitsOrWants (Ok outcome.Nothing) = ⊥
CommitsOrWants (Ok (outcome.Conflict table was now at)) = ⊥
CommitsOrWants _ = Unit {0}

-- the number of the commit that an offer became; else that the log is full, or that memory is wanting
abbrev pub IsCommittedOr : Result Outcome KeeperError → Result ℕ Refusal → Type 0
IsCommittedOr (Ok (outcome.Committed m)) said = said ≡ Ok m
IsCommittedOr (Err fault.Full) said = said ≡ Err refusal.Full
IsCommittedOr (Err fault.Memory) said = said ≡ Err refusal.Memory
IsCommittedOr _ said = ⊥
