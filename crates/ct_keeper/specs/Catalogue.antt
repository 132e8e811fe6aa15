-- What contracts see of a keeper, and what a call leaves of it as it was.
use Rattle.std.specs.Prelude.{◌≡◌, ℕ, List, length}
use mathlib.Core.List.{IsPrefix}
use Rattle.ct_word.specs.Value.{World}
use Rattle.ct_word.specs.Reading.{commits_of}
use Rattle.ct_table.specs.Denotes.{TableView}
use Rattle.ct_table.specs.Snapshot.{IsSnapshot}
use Rattle.ct_keeper.specs.declared.catalogue.Snapshot.{Snapshot}
use Rattle.std.specs.Arc.{arc_value}

-- a keeper: the words that it has seen, the tables after all commits, the place of the global condition, and the kept world
pub record Catalogue : Type 0 where
  pub words : List ℕ
  pub tables : List TableView
  pub global : ℕ
  pub kept : World

-- the number of commits
abbrev pub version_of : Catalogue → ℕ
version_of c = length (commits_of c.words)

-- no commit came; words may have come that are none
pub record Stays (old new : Catalogue) : Type 0 where
  pub longer : IsPrefix old.words new.words
  pub commits : commits_of new.words ≡ commits_of old.words
  pub tables : new.tables ≡ old.tables
  pub global : new.global ≡ old.global
  pub kept : new.kept ≡ old.kept

-- a snapshot has these very tables, this global condition and this kept world
pub record HasOwn (tables : List TableView) (global : ℕ) (kept : World) (s : Snapshot) : Type 0 where
  pub tables_are : arc_value s.db ≡ tables
  pub global_is : s.global ≡ global
  pub kept_is : arc_value s.kept ≡ kept

-- a snapshot is that of all commits of these words
pub record IsNewest (words : List ℕ) (s : Snapshot) : Type 0 where
  pub version : s.version ≡ length (commits_of words)
  pub is : IsSnapshot words s.version (arc_value s.db) s.global (arc_value s.kept)
