-- The commits of one session in the words that it has seen: they are as many as it made, so no further ones come with
-- the words of others.
use Rattle.std.proofs.Common.{◌≡◌, ℕ, ◌+◌, Bool, true, false, List, [], ◌∷◌, ◌++◌, length, refl, ap, sym, ◌∙◌, arith, length-append}
use Rattle.std.{specs.Prelude.{nat_eq, if◌then◌else◌}, proofs.lemmas.Bool.eq-eqb, proofs.lemmas.List.append-nil}
use Rattle.ct_word.{specs.Change.PlainCommit, specs.Reading.commits_of, specs.StandsFor.SameCommits, proofs.Prefixes.commits_prefix}
use Rattle.ct_arena.specs.Counts.{numbers_by, AreNumbered}
use Rattle.ct_transaction.specs.Answers.{commits_by}
use mathlib.Core.List.{IsPrefix}

pub numbers_split : (s : ℕ) (cs ds : List PlainCommit) → numbers_by s (cs ++ ds) ≡ numbers_by s cs ++ numbers_by s ds
numbers_split s [] ds = refl
numbers_split s (c ∷ cs) ds = by_test (nat_eq c.session s) (numbers_split s cs ds) where
  by_test : (b : Bool) → numbers_by s (cs ++ ds) ≡ numbers_by s cs ++ numbers_by s ds
      → (if b then c.number ∷ numbers_by s (cs ++ ds) else numbers_by s (cs ++ ds)) ≡ (if b then c.number ∷ numbers_by s cs else numbers_by s cs) ++ numbers_by s ds
  by_test true rest = ap (λ l. c.number ∷ l) rest
  by_test false rest = rest

-- the commits of a session in two histories, one after the other
pub commits_split : (s m : ℕ) (cs ds : List PlainCommit) → commits_by s m (cs ++ ds) ≡ commits_by s m cs ++ commits_by s (m + length cs) ds
commits_split s m [] ds = ap (λ n. commits_by s n ds) (let z : m ≡ m + 0 = omega arith in z)
commits_split s m (c ∷ cs) ds = by_test (nat_eq c.session s) (commits_split s (m + 1) cs ds ∙ ap (λ n. commits_by s (m + 1) cs ++ commits_by s n ds) next) where
  next : (m + 1) + length cs ≡ m + length (c ∷ cs)
  next = omega arith

  by_test : (b : Bool) → commits_by s (m + 1) (cs ++ ds) ≡ commits_by s (m + 1) cs ++ commits_by s (m + length (c ∷ cs)) ds
      → (if b then m ∷ commits_by s (m + 1) (cs ++ ds) else commits_by s (m + 1) (cs ++ ds))
      ≡ (if b then m ∷ commits_by s (m + 1) cs else commits_by s (m + 1) cs) ++ commits_by s (m + length (c ∷ cs)) ds
  by_test true rest = ap (λ l. m ∷ l) rest
  by_test false rest = rest

-- one commit of the session has its place for number
pub one_by : (s m : ℕ) (c : PlainCommit) → c.session ≡ s → commits_by s m (c ∷ []) ≡ m ∷ []
one_by s m c e = ap (λ b. if b then m ∷ [] else []) (eq-eqb c.session s e)

-- a session without a number has no commit
pub none_by : (s m : ℕ) (cs : List PlainCommit) → length (numbers_by s cs) ≡ 0 → commits_by s m cs ≡ []
none_by s m [] e = refl
none_by s m (c ∷ cs) e = by_test (nat_eq c.session s) (none_by s (m + 1) cs) e where
  by_test : (b : Bool) → (length (numbers_by s cs) ≡ 0 → commits_by s (m + 1) cs ≡ []) → length (if b then c.number ∷ numbers_by s cs else numbers_by s cs) ≡ 0
      → (if b then m ∷ commits_by s (m + 1) cs else commits_by s (m + 1) cs) ≡ []
  by_test true rest none = absurd (let bad : length (c.number ∷ numbers_by s cs) ≡ 0 = none in omega (arith, bad))
  by_test false rest none = rest none

-- words and further ones that have as many commits of a session have the same ones
pub own_commits_stay : (s n : ℕ) (words more : List ℕ) → IsPrefix words more → AreNumbered s n words → AreNumbered s n more
    → commits_by s 1 (commits_of more) ≡ commits_by s 1 (commits_of words)
own_commits_stay s n words more longer old new =
    ap (commits_by s 1) (sym grown.1) ∙ commits_split s 1 (commits_of words) grown.0 ∙ ap (λ l. commits_by s 1 (commits_of words) ++ l) (none_by s (1 + length (commits_of words)) grown.0 none)
    ∙ append-nil (commits_by s 1 (commits_of words)) where
      grown : IsPrefix (commits_of words) (commits_of more)
      grown = commits_prefix words more longer

      both : numbers_by s (commits_of words) ++ numbers_by s grown.0 ≡ numbers_by s (commits_of words)
      both = sym (numbers_split s (commits_of words) grown.0) ∙ ap (numbers_by s) grown.1 ∙ new ∙ sym old

      none : length (numbers_by s grown.0) ≡ 0
      none = let sum = length-append (numbers_by s (commits_of words)) (numbers_by s grown.0) in let same = ap length both in omega (arith, sum, same)

-- the same commits are by the same sessions
pub same_by : (s m : ℕ) (g h : List PlainCommit) → SameCommits g h → commits_by s m g ≡ commits_by s m h
same_by s m [] [] same = refl
same_by s m (a ∷ g) (b ∷ h) same = λ i. if nat_eq (same.0 i) s then m ∷ same_by s (m + 1) g h same.3 i else same_by s (m + 1) g h same.3 i
same_by s m _ _ same = absurd same
