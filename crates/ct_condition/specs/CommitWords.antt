-- The commits among words.
use Rattle.std.specs.Prelude.{ℕ, List}
use Rattle.std.specs.List.{filter}
use Rattle.ct_word.specs.WellFormed.{is_commit_word}

-- the commit words among words, in order
abbrev pub commit_words : List ℕ → List ℕ
commit_words words = filter is_commit_word words
