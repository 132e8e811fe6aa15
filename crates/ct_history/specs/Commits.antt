-- The commit at a place, as it is printed.
use Rattle.std.specs.Prelude.{◌≡◌, ◌++◌, ℕ, List, map, take, filter_map}
use Rattle.ct_word.specs.Change.{PlainCommit}
use Rattle.ct_word.specs.Reading.{IsCommit, as_commit, meanings}
use Rattle.ct_word.specs.Stands.{StandsAt}
use Rattle.ct_word.specs.StandsFor.{SameChanges, SameCommits}
use Rattle.ct_rewrite.specs.declared.history.Commit.{Commit}
use Rattle.ct_rewrite.specs.History.{IsCommitFormed, plain_commit}

-- a printed commit is the one at a place, its conditions having the truth of the words'
pub record IsCommitAt (words : List ℕ) (place : ℕ) (c : Commit) : Type 0 where
  pub commit : PlainCommit
  pub stands : StandsAt words place (IsCommit commit)
  pub session : (plain_commit c).session ≡ commit.session
  pub number : (plain_commit c).number ≡ commit.number
  pub changes : SameChanges (plain_commit c).changes commit.changes
  pub formed : IsCommitFormed c

-- the commits at the places before one
abbrev pub commits_before : List ℕ → ℕ → List PlainCommit
commits_before ws p = filter_map as_commit (take p (meanings ws))

-- printed commits are those of the words from one place up to another: behind those before, they make the commits up to
-- the other
abbrev pub StandsBetween : List ℕ → ℕ → ℕ → List Commit → Type 0
StandsBetween words from upto cs = (xs : List PlainCommit) → SameCommits xs (commits_before words from) → SameCommits (xs ++ map plain_commit cs) (commits_before words upto)
