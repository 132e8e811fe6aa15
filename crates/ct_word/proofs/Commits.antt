-- Which commits the words of a log hold, as words are added.
use Rattle.std.proofs.Common.{◌≡◌, ℕ, zero, suc, ◌/◌, ◌%◌, ◌<◌, ◌^◌, List, [], ◌∷◌, ◌++◌, length, get_or, Option, Some, None, Bool, true, false, refl, sym, ap, ◌∙◌, arith, true≢false}
use Rattle.std.{specs.Prelude.{not, IsTrue, filter_map, slice_get, Contains}, proofs.lemmas.List.{append-nil, append_assoc}, proofs.lemmas.Bool.eqb-true}
use Rattle.std.{proofs.lemmas.List.Elements.filter_map-append, proofs.lemmas.Map.Views.Contains-from_any}
use Rattle.ct_word.{specs.declared.kinds.Kind.Kind, specs.Word.{code_of, word_of, kind_of, left_of, right_of}, specs.Change.PlainCommit}
use Rattle.ct_word.specs.Reading.{Meaning, IsCommit, as_commit, as_change_list, meaning_of, by_kind, read, meanings, commits_of, change_list_at}
use Rattle.ct_word.specs.WellFormed.{has_class, is_formed_as, is_place_of, is_word_over, is_commit_word, is_plain_word, is_word_after}
use Rattle.ct_word.proofs.Packed.{true_left, true_right, true_both, kind_of_parts, left_of_parts, right_of_parts, meaning_packed, meanings_snoc}
use Rattle.ct_word.specs.declared.kinds.Kind.TheVariants as kind
use Rattle.ct_word.specs.declared.kinds.Class.TheVariants as class

-- a word of another class than commits stands for no commit
no_commit : (k : Option Kind) (ms : List Meaning) (a b : ℕ) → has_class k class.Commit ≡ false → as_commit (by_kind k ms a b) ≡ None
no_commit None ms a b e = refl
no_commit (Some kind.Commit) ms a b e = absurd (true≢false e)
no_commit (Some _) ms a b e = refl

false_of_not : (b : Bool) → IsTrue (not b) → b ≡ false
false_of_not true e = absurd (true≢false (sym e))
false_of_not false e = refl

not_of_false : (b : Bool) → (b ≡ true → ⊥) → IsTrue (not b)
not_of_false true h = absurd (h refl)
not_of_false false h = refl

-- the commits of one more word
pub commits_snoc : (ws : List ℕ) (w : ℕ) → commits_of (ws ++ w ∷ []) ≡ commits_of ws ++ filter_map as_commit (meaning_of (meanings ws) w ∷ [])
commits_snoc ws w =
    ap (filter_map as_commit) (meanings_snoc ws w) ∙ filter_map-append as_commit (meanings ws) (meaning_of (meanings ws) w ∷ [])

-- a plain word adds no commit
pub commits_plain : (ws : List ℕ) (w : ℕ) → IsTrue (is_plain_word ws w) → commits_of (ws ++ w ∷ []) ≡ commits_of ws
unfolding is_commit_word meaning_of
commits_plain ws w plain =
    let other : has_class (kind_of w) class.Commit ≡ false = false_of_not _ (true_right (is_word_over ws w) _ plain) in
    let none : as_commit (meaning_of (meanings ws) w) ≡ None = no_commit (kind_of w) (meanings ws) (left_of w) (right_of w) other in
    commits_snoc ws w ∙ rw none (append-nil (commits_of ws))

-- the commit word adds its commit
pub commits_commit : (ws : List ℕ) (a b : ℕ) → a < 2 ^ 28 → b < 2 ^ 28
    → commits_of (ws ++ word_of kind.Commit a b ∷ []) ≡ commits_of ws ++ record { session = a / 262144; number = a % 262144; changes = change_list_at ws b } ∷ []
commits_commit ws a b l r = commits_snoc ws (word_of kind.Commit a b) ∙ ap (λ m. commits_of ws ++ filter_map as_commit (m ∷ [])) (meaning_packed (meanings ws) kind.Commit a b l r)

-- a word that stands nowhere yet, over these words, may follow them
follows : (ws : List ℕ) (w : ℕ) → IsTrue (is_word_over ws w) → (Contains ws w → ⊥) → IsTrue (is_word_after ws w)
unfolding is_word_over is_word_after
follows ws w over absent = true_both _ _ over (not_of_false _ (λ e. absent (Contains-from_any eqb-true w ws e)))

pub plain_follows : (ws : List ℕ) (w : ℕ) → IsTrue (is_plain_word ws w) → (Contains ws w → ⊥) → IsTrue (is_word_after ws w)
plain_follows ws w plain absent = follows ws w (true_left _ _ plain) absent

-- a commit word is a word over words that hold its change list
pub commit_follows : (ws : List ℕ) (a b : ℕ) → a < 2 ^ 28 → b < 2 ^ 28 → IsTrue (is_place_of ws class.ChangeList b) → (Contains ws (word_of kind.Commit a b) → ⊥) → IsTrue (is_word_after ws (word_of kind.Commit a b))
unfolding is_word_over
commit_follows ws a b l r list absent =
    follows ws (word_of kind.Commit a b)
    (rw (kind_of_parts kind.Commit 29 a b refl l r, right_of_parts 29 a b l r) (true_both _ true list refl))
    absent

-- what was read begins with what was there
read_more : (ms : List Meaning) (ws : List ℕ) → (more : List Meaning) × (read ms ws ≡ ms ++ more)
read_more ms [] = ([], sym (append-nil ms))
read_more ms (w ∷ ws) =
    let rest = read_more (ms ++ meaning_of ms w ∷ []) ws in
    (meaning_of ms w ∷ rest.0, rest.1 ∙ append_assoc ms (meaning_of ms w ∷ []) rest.0)

-- these commits hold one of this session and number
pub record HoldsCommit (session number : ℕ) (cs : List PlainCommit) : Type 0 where
  pub before : List PlainCommit
  pub commit : PlainCommit
  pub after : List PlainCommit
  pub whole : cs ≡ before ++ commit ∷ after
  pub session_is : commit.session ≡ session
  pub number_is : commit.number ≡ number

stands_in : (ms : List Meaning) (ws : List ℕ) (k a b d : ℕ) → a < 2 ^ 28 → b < 2 ^ 28 → k < length ws → get_or ws k d ≡ word_of kind.Commit a b
    → HoldsCommit (a / 262144) (a % 262144) (filter_map as_commit (read ms ws))
stands_in ms [] k a b d l r lt at = absurd (omega arith)
stands_in ms (x ∷ ws) zero a b d l r lt at =
    let m : Meaning = IsCommit (record { session = a / 262144; number = a % 262144; changes = as_change_list (slice_get ms b) }) in
    let is : meaning_of ms x ≡ m = ap (meaning_of ms) at ∙ meaning_packed ms kind.Commit a b l r in
    let more = read_more (ms ++ m ∷ []) ws in
    record {
      before = filter_map as_commit ms;
      commit = record { session = a / 262144; number = a % 262144; changes = as_change_list (slice_get ms b) };
      after = filter_map as_commit more.0;
      whole =
          ap (λ y. filter_map as_commit (read (ms ++ y ∷ []) ws)) is ∙ ap (filter_map as_commit) (more.1 ∙ append_assoc ms (m ∷ []) more.0)
          ∙ filter_map-append as_commit ms (m ∷ more.0);
      session_is = refl;
      number_is = refl;
    }
stands_in ms (x ∷ ws) (suc k) a b d l r lt at = stands_in (ms ++ meaning_of ms x ∷ []) ws k a b d l r (omega arith) at

-- words that hold a commit word hold its commit
pub commit_stands : (ws : List ℕ) (a b : ℕ) → a < 2 ^ 28 → b < 2 ^ 28 → Contains ws (word_of kind.Commit a b) → HoldsCommit (a / 262144) (a % 262144) (commits_of ws)
commit_stands ws a b l r there = stands_in [] ws there.0 a b (word_of kind.Commit a b) l r there.1 there.2

-- what is packed with fields as the table asks is a word over these words
pub packed_over : (ws : List ℕ) (k : Kind) (a b : ℕ) → a < 2 ^ 28 → b < 2 ^ 28 → IsTrue (is_formed_as (Some k) ws a b) → IsTrue (is_word_over ws (word_of k a b))
unfolding is_word_over
packed_over ws k a b l r formed =
    let is : is_formed_as (kind_of (word_of k a b)) ws (left_of (word_of k a b)) (right_of (word_of k a b)) ≡ is_formed_as (Some k) ws a b =
    (λ i. is_formed_as (kind_of_parts k (code_of k) a b refl l r i) ws (left_of_parts (code_of k) a b l r i) (right_of_parts (code_of k) a b l r i)) in
    is ∙ formed

-- it is plain where its kind is another than a commit's
pub packed_plain : (ws : List ℕ) (k : Kind) (a b : ℕ) → a < 2 ^ 28 → b < 2 ^ 28 → IsTrue (is_formed_as (Some k) ws a b) → has_class (Some k) class.Commit ≡ false → IsTrue (is_plain_word ws (word_of k a b))
unfolding is_commit_word
packed_plain ws k a b l r formed other =
    let e : has_class (kind_of (word_of k a b)) class.Commit ≡ false = ap (λ o. has_class o class.Commit) (kind_of_parts k (code_of k) a b refl l r) ∙ other in
    true_both _ _ (packed_over ws k a b l r formed) (ap not e)
