-- What stands after all commits of some words.
use Rattle.std.specs.Prelude.{◌≡◌, ℕ, List, length}
use Rattle.std.specs.Arc.{arc_value}
use Rattle.ct_word.specs.Reading.{commits_of}
use Rattle.ct_table.specs.Snapshot.{IsSnapshot}
use Rattle.ct_arena.specs.Seen.{Keeping}
use Rattle.ct_query.specs.declared.action.Read.{Read}
use Rattle.ct_query.specs.Reads.{last}
use Rattle.ct_keeper.specs.declared.latest.Latest.{Latest}
use Rattle.ct_keeper.specs.Catalogue.{Catalogue}
use Rattle.ct_keeper.specs.Writers.{last_in}

-- it is that of all commits of these words
pub record IsLatest (words : List ℕ) (l : Latest) : Type 0 where
  pub version : l.version ≡ length (commits_of words)
  pub is : IsSnapshot words l.version l.content.tables l.content.global (arc_value l.kept)
  pub writers : (r : Read) → last_in l.writers r ≡ last (commits_of words) r

-- the keeper of this pass and of what stands
abbrev pub catalogue_of : Keeping → Latest → Catalogue
catalogue_of pass l = record { words = pass.words; tables = l.content.tables; global = l.content.global; kept = arc_value l.kept }
