-- The names in a list are not more than the words of its log: each of them has a word.
use Rattle.std.proofs.Common.{◌≡◌, ℕ, ◌+◌, ◌≤◌, List, [], ◌∷◌, ◌++◌, length, Option, Some, None, subst, refl, arith, length-append}
use Rattle.std.{specs.Prelude.{slice_get, filter_map, All, IfSome}, proofs.lemmas.List.Elements.{All-nil, All-cons, All-append, All-weaker, All-contains, All-head, All-tail}}
use Rattle.ct_word.{specs.declared.kinds.Kind.Kind, specs.Word.{kind_of, left_of, right_of}, specs.Change.{PlainChange, PlainCommit, Create}, proofs.Items.contains_of_get}
use Rattle.ct_word.specs.Reading.{Meaning, IsNameList, IsChange, IsChangeList, IsCommit, as_text, as_name_list, as_change, as_change_list, as_commit, by_kind, meaning_of, read, meanings, change_list_at, commits_of}
use Rattle.ct_word.specs.declared.kinds.Kind.TheVariants as kind

-- a table that a change creates has at most so many columns
abbrev pub HasFewColumns : ℕ → PlainChange → Type 0
HasFewColumns n (Create name columns) = length columns ≤ n
HasFewColumns n _ = Unit {0}

-- a list that is stood for has at most so many names, and so have those in changes and commits
abbrev HasFewNames : ℕ → Meaning → Type 0
HasFewNames n (IsNameList names) = length names ≤ n
HasFewNames n (IsChange x) = HasFewColumns n x
HasFewNames n (IsChangeList xs) = All (HasFewColumns n) xs
HasFewNames n (IsCommit c) = All (HasFewColumns n) c.changes
HasFewNames n _ = Unit {0}

change_in_more : (n : ℕ) (x : PlainChange) → HasFewColumns n x → HasFewColumns (n + 1) x
change_in_more n (Create name columns) few = omega (arith, few)
change_in_more n _ few = tt

changes_in_more : (n : ℕ) (xs : List PlainChange) → All (HasFewColumns n) xs → All (HasFewColumns (n + 1)) xs
changes_in_more n xs few = All-weaker (HasFewColumns n) (HasFewColumns (n + 1)) (change_in_more n) xs few

meaning_in_more : (n : ℕ) (m : Meaning) → HasFewNames n m → HasFewNames (n + 1) m
meaning_in_more n (IsNameList names) few = omega (arith, few)
meaning_in_more n (IsChange x) few = change_in_more n x few
meaning_in_more n (IsChangeList xs) few = changes_in_more n xs few
meaning_in_more n (IsCommit c) few = changes_in_more n c.changes few
meaning_in_more n _ few = tt

found_as : (n : ℕ) (ms : List Meaning) (k : ℕ) (o : Option Meaning) → slice_get ms k ≡ o → All (HasFewNames n) ms → IfSome o (HasFewNames n)
found_as n ms k (Some m) e few = All-contains (HasFewNames n) ms m few (contains_of_get ms k m e)
found_as n ms k None e few = tt

found : (n : ℕ) (ms : List Meaning) (k : ℕ) → All (HasFewNames n) ms → IfSome (slice_get ms k) (HasFewNames n)
found n ms k few = found_as n ms k (slice_get ms k) refl few

names_few : (n : ℕ) (o : Option Meaning) → IfSome o (HasFewNames n) → length (as_name_list o) ≤ n
names_few n (Some (IsNameList names)) few = few
names_few n (Some _) few = omega arith
names_few n None few = omega arith

change_few : (n : ℕ) (o : Option Meaning) → IfSome o (HasFewNames n) → HasFewColumns n (as_change o)
change_few n (Some (IsChange x)) few = few
change_few n (Some _) few = tt
change_few n None few = tt

changes_few : (n : ℕ) (o : Option Meaning) → IfSome o (HasFewNames n) → All (HasFewColumns n) (as_change_list o)
changes_few n (Some (IsChangeList xs)) few = few
changes_few n (Some _) few = All-nil (HasFewColumns n)
changes_few n None few = All-nil (HasFewColumns n)

-- one more word brings at most one more name
by_kind_few : (n : ℕ) (ms : List Meaning) → All (HasFewNames n) ms → (k : Option Kind) (a b : ℕ) → HasFewNames (n + 1) (by_kind k ms a b)
by_kind_few n ms few (Some kind.NamesEnd) a b = omega arith
by_kind_few n ms few (Some kind.Names) a b =
    omega (arith, names_few n (slice_get ms a) (found n ms a few), length-append (as_name_list (slice_get ms a)) (as_text (slice_get ms b) ∷ []))
by_kind_few n ms few (Some kind.Create) a b = omega (arith, names_few n (slice_get ms b) (found n ms b few))
by_kind_few n ms few (Some kind.ChangesEnd) a b = All-nil (HasFewColumns (n + 1))
by_kind_few n ms few (Some kind.Changes) a b =
    let more = HasFewColumns (n + 1) in
    let x = as_change (slice_get ms b) in
    All-append more (as_change_list (slice_get ms a)) (x ∷ []) (changes_in_more n (as_change_list (slice_get ms a)) (changes_few n (slice_get ms a) (found n ms a few)))
    (All-cons more x [] (change_in_more n x (change_few n (slice_get ms b) (found n ms b few))) (All-nil more))
by_kind_few n ms few (Some kind.Commit) a b = changes_in_more n (as_change_list (slice_get ms b)) (changes_few n (slice_get ms b) (found n ms b few))
by_kind_few n ms few (Some _) a b = tt
by_kind_few n ms few None a b = tt

meaning_few : (n : ℕ) (ms : List Meaning) (w : ℕ) → All (HasFewNames n) ms → HasFewNames (n + 1) (meaning_of ms w)
unfolding meaning_of
meaning_few n ms w few = by_kind_few n ms few (kind_of w) (left_of w) (right_of w)

read_few : (n m : ℕ) (ms : List Meaning) (ws : List ℕ) → m ≡ n + length ws → All (HasFewNames n) ms → All (HasFewNames m) (read ms ws)
read_few n m ms [] e few = let same : n ≡ m = omega (arith, e) in subst (λ j. All (HasFewNames j) ms) same few
read_few n m ms (w ∷ ws) e few =
    let more = HasFewNames (n + 1) in
    read_few (n + 1) m (ms ++ meaning_of ms w ∷ []) ws (omega (arith, e))
    (All-append more ms (meaning_of ms w ∷ []) (All-weaker (HasFewNames n) more (meaning_in_more n) ms few)
    (All-cons more (meaning_of ms w) [] (meaning_few n ms w few) (All-nil more)))

words_few : (words : List ℕ) → All (HasFewNames (length words)) (meanings words)
words_few words = read_few 0 (length words) [] words (omega arith) (All-nil (HasFewNames 0))

-- a place of a list of names stands for at most as many as there are words
pub few_names_stand : (words : List ℕ) (place : ℕ) → length (as_name_list (slice_get (meanings words) place)) ≤ length words
few_names_stand words place = names_few (length words) (slice_get (meanings words) place) (found (length words) (meanings words) place (words_few words))

-- a table that is created by a change of a list that stands in the words has at most as many columns
pub listed_have_few_columns : (words : List ℕ) (place : ℕ) → All (HasFewColumns (length words)) (change_list_at words place)
listed_have_few_columns words place = changes_few (length words) (slice_get (meanings words) place) (found (length words) (meanings words) place (words_few words))

commits_few : (n : ℕ) (ms : List Meaning) → All (HasFewNames n) ms → All (λ (c : PlainCommit). All (HasFewColumns n) c.changes) (filter_map as_commit ms)
commits_few n [] few = All-nil (λ (c : PlainCommit). All (HasFewColumns n) c.changes)
commits_few n (IsCommit c ∷ ms) few =
    All-cons (λ (d : PlainCommit). All (HasFewColumns n) d.changes) c (filter_map as_commit ms) (All-head (HasFewNames n) (IsCommit c) ms few)
    (commits_few n ms (All-tail (HasFewNames n) (IsCommit c) ms few))
commits_few n (_ ∷ ms) few = commits_few n ms (All-tail (HasFewNames n) _ ms few)

-- and so has one that is created by a change of a commit in them
pub commits_have_few_columns : (words : List ℕ) → All (λ (c : PlainCommit). All (HasFewColumns (length words)) c.changes) (commits_of words)
commits_have_few_columns words = commits_few (length words) (meanings words) (words_few words)
