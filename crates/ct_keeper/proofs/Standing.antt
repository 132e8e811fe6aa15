-- What stands after all commits is so after further words too.
use Rattle.std.{proofs.Common.{◌≡◌, ℕ, List, length, ap, sym, ◌∙◌}, specs.Arc.arc_value}
use Rattle.ct_word.{specs.Reading.commits_of, specs.WellFormed.IsWellFormed}
use Rattle.ct_table.proofs.Snapshots.{snapshot_grows}
use Rattle.ct_keeper.{specs.declared.latest.Latest.Latest, specs.Latest.IsLatest, specs.Writers.last_in, specs.declared.writers.Writers.Writers}
use Rattle.ct_query.{specs.Reads.last, specs.declared.action.Read.Read}
use mathlib.Core.List.{IsPrefix}

pub still : (old new : List ℕ) (l : Latest) → IsLatest old l → IsPrefix old new → IsWellFormed new → commits_of new ≡ commits_of old → IsLatest new l
still old new l is longer formed commits = record {
  version = is.version ∙ ap (λ h. length h) (sym commits);
  is = snapshot_grows old new longer formed l.version l.content.tables l.content.global (arc_value l.kept) is.is;
  writers = λ r. is.writers r ∙ ap (λ h. last h r) (sym commits);
}

-- and with writers of the same numbers
pub renoted : (words : List ℕ) (l : Latest) → IsLatest words l → (w : Writers) → ((r : Read) → last_in w r ≡ last_in l.writers r)
    → IsLatest words (record { content = l.content; kept = l.kept; version = l.version; writers = w })
renoted words l is w same = record { version = is.version; is = is.is; writers = λ r. same r ∙ is.writers r }
