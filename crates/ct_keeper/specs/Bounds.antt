-- Bounds on the words that a commit makes, from row counts.
use Rattle.std.specs.Prelude.{ℕ, ◌+◌, ◌*◌, List, [], ◌∷◌, ◌++◌, length, map, sum_by}
use Rattle.ct_word.specs.Change.{PlainChange, Create, Insert, Delete, Update, Assert, PlainCommit}
use Rattle.ct_word.specs.Reading.{commits_of}
use Rattle.ct_query.specs.Bounds.{ops}
use Rattle.ct_query.specs.Patterns.{count}
use Rattle.ct_arena.specs.Seen.{Seen}
use Rattle.ct_history.specs.declared.written.Written.{Written}
use Rattle.ct_history.specs.Written.{plain_written}
use Rattle.ct_keeper.specs.declared.catalogue.Offer.{Offer}
use Rattle.ct_keeper.specs.Offers.{changes_in, commit_for}

-- the words of applying a change, from the counts of rows of the tables
abbrev pub applied_words : (List ℕ → ℕ) → PlainChange → ℕ
applied_words counts (Create name columns) = 0
applied_words counts (Insert name rows) = length rows
applied_words counts (Delete name c) = counts name * (ops c + 2)
applied_words counts (Update name sets c) = counts name * (ops c + 5)
applied_words counts (Assert c) = 1

-- the words of a commit of these changes
abbrev pub commit_words : (List ℕ → ℕ) → List PlainChange → ℕ
commit_words counts [] = 0
commit_words counts (x ∷ xs) = 1 + sum_by (applied_words counts) (x ∷ xs)

-- the words of the commit of an offer, from the counts of the rows that were ever made, with its own
abbrev pub offer_words : List ℕ → Seen → Offer → ℕ
offer_words words pass offer = commit_words (count (commits_of words ++ commit_for pass offer ∷ []) []) (changes_in pass.words offer)

-- a commit of these changes, by no session
abbrev pub commit_by : List PlainChange → PlainCommit
commit_by xs = record { session = 0; number = 0; changes = xs }

-- the counts of the rows that were ever made by a history and further changes
abbrev pub counts_with : List PlainCommit → List PlainChange → List ℕ → ℕ
counts_with h xs = count (h ++ commit_by xs ∷ []) []

-- the words of applying the first ones of a commit's changes, one after another, after all commits of these words
abbrev pub first_words : List ℕ → List Written → List Written → ℕ
first_words words changes few =
    sum_by (applied_words (counts_with (commits_of words) (map (plain_written words) changes))) (map (plain_written words) few)

-- the words of applying all of them
abbrev pub all_words : List ℕ → List Written → ℕ
all_words words changes = first_words words changes changes
