-- Histories of the same commits, either way.
use Rattle.std.{proofs.Common.{◌≡◌, ℕ, zero, suc, List, [], ◌∷◌, refl, sym, subst}, specs.Prelude.{Some, slice_get, All}}
use Rattle.std.proofs.lemmas.List.Elements.{All-nil, All-cons, All-head, All-tail}
use Rattle.ct_word.specs.Change.{PlainRow, PlainChange, Create, Insert, Delete, Update, Assert, PlainCommit}
use Rattle.ct_word.specs.StandsFor.{SameRows, SameChange, SameChanges, SameCommits}

rows_back : (rs qs : List PlainRow) → SameRows rs qs → SameRows qs rs
rows_back [] [] s = tt
rows_back (r ∷ rs) (q ∷ qs) s = (sym s.0, (λ v row. sym (s.1 v row)), rows_back rs qs s.2)
rows_back _ _ s = absurd s

change_back : (x y : PlainChange) → SameChange x y → SameChange y x
change_back (Create n cs) (Create n' cs') s = (sym s.0, sym s.1)
change_back (Insert n rs) (Insert n' rs') s = (sym s.0, rows_back rs rs' s.1)
change_back (Delete n c) (Delete n' c') s = (sym s.0, λ v row. sym (s.1 v row))
change_back (Update n ss c) (Update n' ss' c') s = (sym s.0, sym s.1, λ v row. sym (s.2 v row))
change_back (Assert c) (Assert c') s = λ v row. sym (s v row)
change_back _ _ s = absurd s

changes_back : (xs ys : List PlainChange) → SameChanges xs ys → SameChanges ys xs
changes_back [] [] s = tt
changes_back (x ∷ xs) (y ∷ ys) s = (change_back x y s.0, changes_back xs ys s.1)
changes_back _ _ s = absurd s

pub commits_back : (g h : List PlainCommit) → SameCommits g h → SameCommits h g
commits_back [] [] s = tt
commits_back (c ∷ g) (d ∷ h) s = (sym s.0, sym s.1, changes_back c.changes d.changes s.2, commits_back g h s.3)
commits_back _ _ s = absurd s

-- a commit in one of two histories of the same commits stands for one in the other
pub record StandsAs (h : List PlainCommit) (n : ℕ) (c : PlainCommit) : Type 0 where
  pub commit : PlainCommit
  pub at : slice_get h n ≡ Some commit
  pub session : commit.session ≡ c.session
  pub number : commit.number ≡ c.number
  pub changes : SameChanges c.changes commit.changes

pub same_commit : (g h : List PlainCommit) (n : ℕ) (c : PlainCommit) → SameCommits g h → slice_get g n ≡ Some c → StandsAs h n c
same_commit [] [] n c s e = cc
same_commit (a ∷ g) (b ∷ h) zero c s e =
    subst (StandsAs (b ∷ h) 0) (some_same a c e) (record { commit = b; at = refl; session = sym s.0; number = sym s.1; changes = s.2 }) where
      some_same : (x y : PlainCommit) → Some x ≡ Some y → x ≡ y
      some_same x y p = cc
same_commit (a ∷ g) (b ∷ h) (suc n) c s e =
    let rest = same_commit g h n c s.3 e in record { commit = rest.commit; at = rest.at; session = rest.session; number = rest.number; changes = rest.changes }
same_commit _ _ n c s e = absurd s

-- what is said of the session of each commit is said in the other history too
pub sessions_same : (P : ℕ → Type 0) (g h : List PlainCommit) → SameCommits g h → All (λ c. P c.session) h → All (λ c. P c.session) g
sessions_same P [] [] s all = All-nil (λ c. P c.session)
sessions_same P (a ∷ g) (b ∷ h) s all =
    All-cons (λ (c : PlainCommit). P c.session) a g (subst P (sym s.0) (All-head (λ (c : PlainCommit). P c.session) b h all))
    (sessions_same P g h s.3 (All-tail (λ (c : PlainCommit). P c.session) b h all))
sessions_same P _ _ s all = absurd s
