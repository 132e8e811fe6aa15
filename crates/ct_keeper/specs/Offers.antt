-- Which offers a keeper takes, and what becomes of one.
use Rattle.std.specs.Prelude.{◌≡◌, ◌≢◌, ℕ, ◌+◌, ◌<◌, ◌≤◌, List, [], ◌∷◌, ◌++◌, Option, Some, None, length, option_map, take, All, IsTrue, Result, Ok, Err}
use Rattle.std.specs.List.{Contains, list_all, list_any}
use Rattle.std.specs.Arc.{arc_value}
use mathlib.Core.List.{IsPrefix}
use Rattle.ct_word.specs.declared.kinds.Class.TheVariants as class
use Rattle.ct_word.specs.Change.{PlainChange, PlainCommit}
use Rattle.ct_word.specs.Reading.{commits_of, change_list_at}
use Rattle.ct_word.specs.WellFormed.{is_place_of}
use Rattle.ct_word.specs.Value.{World}
use Rattle.ct_word.specs.Writable.{is_writable}
use Rattle.ct_query.specs.declared.action.Read.{Read}
use Rattle.ct_query.specs.declared.action.Read.TheVariants as read
use Rattle.ct_query.specs.Fits.{FitAfter}
use Rattle.ct_query.specs.Frame.{creates}
use Rattle.ct_query.specs.Reads.{writes, last}
use Rattle.ct_arena.specs.Counts.{commit_of}
use Rattle.ct_arena.specs.Seen.{Seen}
use Rattle.ct_table.specs.Snapshot.{commits_to, IsKeptWorld}
use Rattle.ct_keeper.specs.declared.catalogue.Offer.{Offer}
use Rattle.ct_keeper.specs.declared.catalogue.Outcome.{Outcome}
use Rattle.ct_keeper.specs.declared.catalogue.Outcome.TheVariants as outcome
use Rattle.ct_keeper.specs.declared.error.KeeperError.{KeeperError}
use Rattle.ct_keeper.specs.declared.error.KeeperError.TheVariants as fault
use Rattle.ct_keeper.specs.Catalogue.{Catalogue, Stays, version_of}

-- a world that may be there; the one without pairs where there is none
abbrev pub world_in : Option World → World
world_in None = []
world_in (Some world) = world

-- the world of an offer
abbrev pub kept_in : Offer → World
kept_in offer = world_in (option_map arc_value offer.kept)

-- the changes of an offer
abbrev pub changes_in : List ℕ → Offer → List PlainChange
changes_in words offer = change_list_at words offer.changes

-- the commit that an offer becomes
abbrev pub commit_for : Seen → Offer → PlainCommit
commit_for pass offer = commit_of pass.words pass.session pass.mine offer.changes

-- whether changes have an assertion
abbrev pub has_assertion : List PlainChange → Type 0
has_assertion xs = IsTrue (list_any (λ x. writes x read.Worlds) xs)

-- what is asked of an offer with an assertion: it read the worlds, and some world, which it has, is left
pub record Leaves (pass : Seen) (offer : Offer) : Type 0 where
  pub reads : Contains offer.reads read.Worlds
  pub world : IsKeptWorld pass.words (commits_to pass.words offer.base ++ commit_for pass offer ∷ []) [] (kept_in offer)

-- what is asked of an offer: its base is a version that the session has seen, its changes fit the tables there one after
-- another and can be written, it read the name of each table that it creates, and where it has an assertion a world is left
pub record IsOffer (pass : Seen) (offer : Offer) : Type 0 where
  pub seen : offer.base ≤ length (commits_of pass.words)
  pub place : IsTrue (is_place_of pass.words class.ChangeList offer.changes)
  pub fits : FitAfter (commits_to pass.words offer.base) (changes_in pass.words offer)
  pub writable : IsTrue (list_all is_writable (changes_in pass.words offer))
  pub creations : All (Contains offer.reads) (creates (changes_in pass.words offer))
  pub leaves : has_assertion (changes_in pass.words offer) → Leaves pass offer

-- no commit of a history after the base has changed what was read
abbrev pub AreUnchanged : List PlainCommit → ℕ → List Read → Type 0
AreUnchanged h base reads = All (λ r. last h r ≤ base) reads

-- nor one of these words what an offer read
abbrev pub IsUnchanged : List ℕ → Offer → Type 0
IsUnchanged words offer = AreUnchanged (commits_of words) offer.base offer.reads

-- the first of the reads that a commit after the base has written
pub record IsFirstWritten (h : List PlainCommit) (base : ℕ) (reads : List Read) (table : Read) : Type 0 where
  pub before : List Read
  pub after : List Read
  pub place : reads ≡ before ++ table ∷ after
  pub unchanged : AreUnchanged h base before
  pub written : base < last h table

-- the offer is the next commit, and counted to its session
pub record IsCommitted (old new : Catalogue) (pass pass' : Seen) (offer : Offer) (m : ℕ) : Type 0 where
  pub has_changes : changes_in pass.words offer ≢ []
  pub unchanged : IsUnchanged old.words offer
  pub number : m ≡ version_of old + 1
  pub commits : commits_of new.words ≡ commits_of old.words ++ commit_for pass offer ∷ []
  pub longer : IsPrefix old.words new.words
  pub grown : length pass.words < length pass'.words
  pub mine : pass'.mine ≡ pass.mine + 1

-- nothing was committed
pub record IsUncommitted (old new : Catalogue) (pass pass' : Seen) : Type 0 where
  pub stays : Stays old new
  pub mine : pass'.mine ≡ pass.mine

-- a commit of a history after the base has changed what was read
pub record IsConflict (h : List PlainCommit) (base : ℕ) (reads : List Read) (table : Read) (was now at : ℕ) : Type 0 where
  pub first : IsFirstWritten h base reads table
  pub at_is : at ≡ length h
  pub now_is : now ≡ last h table
  pub was_is : was ≡ last (take base h) table

-- what becomes of an offer
abbrev pub BecomesOf : ℕ → Catalogue → Catalogue → Seen → Seen → Offer → Result Outcome KeeperError → Type 0
BecomesOf cap old new pass pass' offer (Ok (outcome.Committed m)) = IsCommitted old new pass pass' offer m
BecomesOf cap old new pass pass' offer (Ok outcome.Nothing) = IsUncommitted old new pass pass' × (changes_in pass.words offer ≡ [])
BecomesOf cap old new pass pass' offer (Ok (outcome.Conflict table was now at)) =
    IsUncommitted old new pass pass' × (changes_in pass.words offer ≢ []) × IsConflict (commits_of old.words) offer.base offer.reads table was now at
BecomesOf cap old new pass pass' offer (Err fault.Full) =
    IsUncommitted old new pass pass' × (changes_in pass.words offer ≢ []) × IsUnchanged old.words offer × (length new.words ≡ cap)
BecomesOf cap old new pass pass' offer (Err fault.Memory) = IsUncommitted old new pass pass'
