-- What a session has of the keeper behind its lock: by the words that its pass had, and those that it has after the call.
use Rattle.std.specs.Prelude.{◌≡◌, ◌≢◌, ◌<◌, ◌+◌, ℕ, List, [], ◌∷◌, ◌++◌, length, Result, Ok, Err}
use mathlib.Core.List.{IsPrefix}
use Rattle.ct_word.specs.Change.{PlainCommit}
use Rattle.ct_word.specs.Reading.{commits_of}
use Rattle.ct_arena.specs.Counts.{opening}
use Rattle.ct_arena.specs.Seen.{Seen}
use Rattle.ct_keeper.specs.declared.catalogue.Offer.{Offer}
use Rattle.ct_keeper.specs.declared.catalogue.Outcome.{Outcome}
use Rattle.ct_keeper.specs.declared.catalogue.Outcome.TheVariants as outcome
use Rattle.ct_keeper.specs.declared.error.KeeperError.{KeeperError}
use Rattle.ct_keeper.specs.declared.error.KeeperError.TheVariants as fault
use Rattle.ct_keeper.specs.Offers.{AreUnchanged, IsConflict, changes_in, commit_for}

-- the pass with which a session begins
abbrev pub first_pass : ℕ → Seen
first_pass session = record { session = session; words = opening; made = 0; mine = 0 }

-- the offer is the last commit of the session's words, and none before it has changed what was read
pub record IsLastCommit (pass pass' : Seen) (offer : Offer) (m : ℕ) : Type 0 where
  pub has_changes : changes_in pass.words offer ≢ []
  pub before : List PlainCommit
  pub longer : IsPrefix (commits_of pass.words) before
  pub commits : commits_of pass'.words ≡ before ++ commit_for pass offer ∷ []
  pub number : m ≡ length before + 1
  pub unchanged : AreUnchanged before offer.base offer.reads
  pub grown : length pass.words < length pass'.words
  pub mine : pass'.mine ≡ pass.mine + 1

-- the offer has changes, and the session committed nothing
pub record IsHeldBack (pass pass' : Seen) (offer : Offer) : Type 0 where
  pub has_changes : changes_in pass.words offer ≢ []
  pub mine : pass'.mine ≡ pass.mine

-- what an offer became, for a log with room for so many words
abbrev pub IsOutcome : ℕ → Seen → Seen → Offer → Result Outcome KeeperError → Type 0
IsOutcome cap pass pass' offer (Ok (outcome.Committed m)) = IsLastCommit pass pass' offer m
IsOutcome cap pass pass' offer (Ok outcome.Nothing) = (pass'.mine ≡ pass.mine) × (changes_in pass.words offer ≡ [])
IsOutcome cap pass pass' offer (Ok (outcome.Conflict table was now at)) =
    IsHeldBack pass pass' offer × IsConflict (commits_of pass'.words) offer.base offer.reads table was now at
IsOutcome cap pass pass' offer (Err fault.Full) =
    IsHeldBack pass pass' offer × AreUnchanged (commits_of pass'.words) offer.base offer.reads × (length pass'.words ≡ cap)
IsOutcome cap pass pass' offer (Err fault.Memory) = pass'.mine ≡ pass.mine
