-- What is true of the words of a log: where they begin, and whose commits they hold.
use Rattle.std.specs.Prelude.{◌≡◌, ℕ, ◌+◌, ◌*◌, ◌≤◌, List, [], ◌∷◌, All, nat_eq, length, if◌then◌else◌}
use Rattle.std.specs.List.{range_with_len}
use mathlib.Core.List.{IsPrefix}
use Rattle.ct_word.specs.declared.kinds.Kind.TheVariants as kind
use Rattle.ct_word.specs.Word.{word_of}
use Rattle.ct_word.specs.Change.{PlainCommit}
use Rattle.ct_word.specs.Reading.{commits_of, change_list_at}
use Rattle.ct_word.specs.WellFormed.{IsWellFormed}

-- the words true and false, which every log begins with
unfoldable pub opening : List ℕ
opening = word_of kind.True 0 0 ∷ word_of kind.False 0 0 ∷ []

-- the word of a commit: its session and number, and the place of its change list
abbrev pub commit_word : ℕ → ℕ → ℕ → ℕ
commit_word session number changes = word_of kind.Commit (session * 262144 + number) changes

-- what that word stands for, after these words
abbrev pub commit_of : List ℕ → ℕ → ℕ → ℕ → PlainCommit
commit_of words session number changes = record { session = session; number = number; changes = change_list_at words changes }

-- the numbers of a session's commits, in order
abbrev pub numbers_by : ℕ → List PlainCommit → List ℕ
numbers_by session [] = []
numbers_by session (c ∷ cs) = if nat_eq c.session session then c.number ∷ numbers_by session cs else numbers_by session cs

-- the commits of a session are this many, numbered from 0 in order
abbrev pub AreNumbered : ℕ → ℕ → List ℕ → Type 0
AreNumbered session mine words = numbers_by session (commits_of words) ≡ range_with_len 0 mine

-- each commit is of a session that was enrolled
abbrev pub AreOfSessions : ℕ → List ℕ → Type 0
AreOfSessions enrolled words = All (λ c. (1 ≤ c.session) × (c.session ≤ enrolled)) (commits_of words)

-- a well formed list of at most this many words that begins as every log does
pub record IsLog (cap : ℕ) (words : List ℕ) : Type 0 where
  pub formed : IsWellFormed words
  pub room : length words ≤ cap
  pub begins : IsPrefix opening words
