-- When a printed history stands for the commits of a log.
use Rattle.std.specs.Prelude.{◌≡◌, ℕ, List, [], ◌∷◌, ⊤}
use Rattle.ct_word.specs.Condition.{SameTruth}
use Rattle.ct_word.specs.Change.{PlainRow, PlainChange, Create, Insert, Delete, Update, Assert, PlainCommit}
use Rattle.ct_word.specs.Reading.{commits_of}

-- the same cells, the conditions of one truth
abbrev pub SameRows : List PlainRow → List PlainRow → Type 0
SameRows [] [] = ⊤
SameRows (a ∷ as') (b ∷ bs) = (a.cells ≡ b.cells) × SameTruth a.condition b.condition × SameRows as' bs
SameRows _ _ = ⊥

-- the same change, the conditions of one truth
abbrev pub SameChange : PlainChange → PlainChange → Type 0
SameChange (Create n cs) (Create n' cs') = (n ≡ n') × (cs ≡ cs')
SameChange (Insert n rs) (Insert n' rs') = (n ≡ n') × SameRows rs rs'
SameChange (Delete n c) (Delete n' c') = (n ≡ n') × SameTruth c c'
SameChange (Update n ss c) (Update n' ss' c') = (n ≡ n') × (ss ≡ ss') × SameTruth c c'
SameChange (Assert c) (Assert c') = SameTruth c c'
SameChange _ _ = ⊥

-- the same changes in order, the conditions of one truth
abbrev pub SameChanges : List PlainChange → List PlainChange → Type 0
SameChanges [] [] = ⊤
SameChanges (a ∷ as') (b ∷ bs) = SameChange a b × SameChanges as' bs
SameChanges _ _ = ⊥

-- the same commits in order, of the same sessions and numbers
abbrev pub SameCommits : List PlainCommit → List PlainCommit → Type 0
SameCommits [] [] = ⊤
SameCommits (a ∷ as') (b ∷ bs) = (a.session ≡ b.session) × (a.number ≡ b.number) × SameChanges a.changes b.changes × SameCommits as' bs
SameCommits _ _ = ⊥

-- a history stands for the commits in the words
abbrev pub StandsFor : List PlainCommit → List ℕ → Type 0
StandsFor h words = SameCommits h (commits_of words)
