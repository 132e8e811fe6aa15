-- What is known of the list that a session has seen, and of a log that was read to its end.
use Rattle.std.specs.Prelude.{◌≡◌, ℕ, ◌+◌, ◌<◌, ◌≤◌, ◌^◌, ◌⊎◌, Bool, true, List, [], ◌∷◌, ◌++◌, length, Some, None, sum_by, All, IsTrue}
use mathlib.Core.List.{IsPrefix}
use Rattle.ct_word.specs.declared.kinds.Class.TheVariants as class
use Rattle.ct_word.specs.Reading.{commits_of}
use Rattle.ct_word.specs.WellFormed.{is_plain_word, is_place_of}
use Rattle.ct_arena.specs.Counts.{IsLog, AreNumbered, commit_word}
use Rattle.ct_arena.specs.declared.sharing.View.{View}
use Rattle.ct_arena.specs.declared.tally.Tally.{Tally}
use Rattle.ct_arena.specs.Sharing.{counts_word}

-- the words that a session has seen, with its counts
pub record IsOwn (cap : ℕ) (t : Tally) (words : List ℕ) : Type 0 where
  pub log : IsLog cap words
  pub least : 1 ≤ t.session
  pub most : t.session ≤ 1023
  pub counted : 2 + t.made ≤ length words
  pub numbered : AreNumbered t.session t.mine words

-- the view with these words
abbrev pub with_seen : View → List ℕ → View
with_seen v words = record { keeps = v.keeps; seen = words; other = v.other; guest = v.guest; ended = v.ended; enrolled = v.enrolled; room = v.room }

-- where each session was ended, the log has 2 words and those that they made, and the commits of each
abbrev pub IsWhole : View → List ℕ → Type 0
IsWhole v words = length v.ended ≡ v.enrolled → v.guest ≡ None → (length words ≡ 2 + sum_by (λ t. t.made) v.ended) × All (λ t. AreNumbered t.session t.mine words) v.ended

-- the view with this session as its guest
abbrev pub with_guest : View → Tally → View
with_guest v t = record { keeps = v.keeps; seen = v.seen; other = v.other; guest = Some t; ended = v.ended; enrolled = v.enrolled; room = v.room }

-- the word is the next commit of the session, which the keeper puts for it
pub record IsCommitOf (keeps : Bool) (t : Tally) (words : List ℕ) (w : ℕ) : Type 0 where
  pub changes : ℕ
  pub keeper : keeps ≡ true
  pub session : t.session ≤ 1023
  pub number : t.mine < 2 ^ 18
  pub small : changes < 2 ^ 28
  pub list : IsTrue (is_place_of words class.ChangeList changes)
  pub word : w ≡ commit_word t.session t.mine changes

-- what may be put after these words, where it does not stand there
abbrev pub IsNextWord : Bool → Tally → List ℕ → ℕ → Type 0
IsNextWord keeps t words w = IsTrue (is_plain_word words w) ⊎ IsCommitOf keeps t words w

-- plain words of others were read, and then the word was put and counted, or nothing was
pub record IsOutcome (keeps : Bool) (t t' : Tally) (old new : List ℕ) (w : ℕ) : Type 0 where
  pub before : List ℕ
  pub longer : IsPrefix old before
  pub commits : keeps ≡ true → commits_of before ≡ commits_of old
  pub what : ((new ≡ before) × (t' ≡ t)) ⊎ ((new ≡ before ++ w ∷ []) × (t' ≡ counts_word w t))
