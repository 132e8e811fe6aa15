-- What interning for a guest leaves as it was, read from the numbers that say it.
use Rattle.std.proofs.Common.{◌≡◌, ℕ, List, [], ◌∷◌, ◌++◌, length, refl}
use Rattle.ct_word.specs.Reading.{commits_of}
use Rattle.ct_arena.{specs.declared.tally.Tally.Tally, specs.Seen.Keeping}
use Rattle.ct_condition.{specs.CommitWords.commit_words, specs.Tallies.numbers_in, proofs.CommitWords.commits_left}
use mathlib.Core.List.{IsPrefix}

tally_is : (s t m n a b : ℕ) → s ≡ t → m ≡ n → a ≡ b → (let x : Tally = record { session = s; made = m; mine = a } in x) ≡ record { session = t; made = n; mine = b }
tally_is s t m n a b p q r = λ i. record { session = p i; made = q i; mine = r i }

-- as many tallies of the same numbers are the same, and so is what comes behind them
same_tallies : (a b : List Tally) (x y : List ℕ) → length a ≡ length b → numbers_in a ++ x ≡ numbers_in b ++ y → (a ≡ b) × (x ≡ y)
same_tallies [] [] x y l e = (refl, e)
same_tallies (s ∷ a) (t ∷ b) x y l e =
    let session : s.session ≡ t.session = cc in
    let made : s.made ≡ t.made = cc in
    let mine : s.mine ≡ t.mine = cc in
    let rest = same_tallies a b x y (cc) (cc) in
    ((λ i. tally_is s.session t.session s.made t.made s.mine t.mine session made mine i ∷ rest.0 i), rest.1)
same_tallies [] (t ∷ b) x y l e = absurd (cc)
same_tallies (s ∷ a) [] x y l e = absurd (cc)

-- the numbers that say what is left
abbrev pub left_of : Keeping → Tally → List ℕ
left_of k t = t.session ∷ t.mine ∷ k.enrolled ∷ length k.ended ∷ (numbers_in k.ended ++ commit_words k.words)

module _ (old new : Keeping) (guest guest' : Tally) (same : left_of new guest' ≡ left_of old guest) where
  pub session_left : guest'.session ≡ guest.session
  session_left = cc

  pub mine_left : guest'.mine ≡ guest.mine
  mine_left = cc

  pub enrolled_left : new.enrolled ≡ old.enrolled
  enrolled_left = cc

  both_left : (new.ended ≡ old.ended) × (commit_words new.words ≡ commit_words old.words)
  both_left = same_tallies new.ended old.ended (commit_words new.words) (commit_words old.words) (cc) (cc)

  pub ended_left : new.ended ≡ old.ended
  ended_left = both_left.0

  pub commits_are_left : IsPrefix old.words new.words → commits_of new.words ≡ commits_of old.words
  commits_are_left longer = commits_left old.words new.words longer both_left.1
