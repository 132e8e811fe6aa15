-- The words that each log begins with.
use Rattle.std.{proofs.Common.{◌≡◌, ℕ, ◌≤◌, [], length, refl, sym, subst, arith}, specs.Prelude.All, proofs.lemmas.List.append-nil}
use Rattle.ct_word.{specs.Word.kind_with, specs.Reading.{commits_of, meaning_of}, specs.WellFormed.{IsWellFormed, is_word_after}}
use Rattle.ct_arena.specs.Counts.{opening, IsLog, AreOfSessions}

pub opening_formed : IsWellFormed opening
unfolding opening is_word_after kind_with
opening_formed = refl

pub no_commits : commits_of opening ≡ []
unfolding opening meaning_of kind_with
no_commits = refl

pub two : length opening ≡ 2
unfolding opening
two = refl

pub opening_log : (room : ℕ) → 64 ≤ room → IsLog room opening
opening_log room least = record { formed = opening_formed; room = omega (arith, two); begins = ([], append-nil opening) }

pub none_of : (n : ℕ) → AreOfSessions n opening
none_of n = subst (λ cs. All (λ c. (1 ≤ c.session) × (c.session ≤ n)) cs) (sym no_commits) (λ k d lt. absurd (omega arith))
