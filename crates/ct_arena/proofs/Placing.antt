-- Putting a word at the end of the log, as a seat knows it of its own list.
use Rattle.std.proofs.Common.{◌≡◌, ◌≢◌, ℕ, ◌+◌, ◌*◌, ◌<◌, ◌^◌, ◌⊎◌, not, List, [], ◌∷◌, ◌++◌, length, Bool, refl, sym, ap, ◌∙◌, subst, inl, inr, arith, length-append}
use Rattle.std.specs.Prelude.{IsTrue, Contains, if◌then◌else◌}
use Rattle.atomic_table.specs.Table.{Me}
use Rattle.ct_word.{specs.Reading.commits_of, specs.WellFormed.{is_plain_word, is_commit_word, is_word_over, is_word_after}, proofs.Growth.word_over_grows}
use Rattle.ct_word.{proofs.Packed.{true_left, true_right, true_both}, proofs.Prefixes.place_in_prefix}
use Rattle.ct_word.proofs.Commits.{commits_plain, plain_follows, commit_follows}
use Rattle.ct_arena.{specs.Counts.{AreNumbered, numbers_by, commit_of}, specs.declared.sharing.View.View, specs.declared.tally.Tally.Tally}
use Rattle.ct_arena.{specs.Sharing.{counts_word, MayPut, IsNextCommit, IsPut}, specs.Own.{IsOwn, with_seen, with_guest, IsNextWord}}
use Rattle.ct_arena.{proofs.Putting.{plain_kind, commit_kind}, proofs.Told.{IsGrown, reads_one}}
use Rattle.ct_arena.proofs.Sole.{log_push, commits_grow, numbers_append, numbers_own, range_next}
use mathlib.Core.List.{IsPrefix}
use Rattle.ct_word.specs.declared.kinds.Class.TheVariants as class

-- a word that may be put may be after more words
pub next_grows : (keeps : Bool) (t : Tally) (words more : List ℕ) (w : ℕ) → IsPrefix words more → IsNextWord keeps t words w → IsNextWord keeps t more w
next_grows keeps t words more w p (inl plain) =
    inl (subst (λ l. IsTrue (is_plain_word l w)) p.1
    (true_both _ _ (word_over_grows words p.0 w (true_left (is_word_over words w) (not (is_commit_word w)) plain)) (true_right (is_word_over words w) (not (is_commit_word w)) plain)))
next_grows keeps t words more w p (inr next) =
    inr (record { changes = next.changes; keeper = next.keeper; session = next.session; number = next.number; small = next.small; list = place_in_prefix words more class.ChangeList next.changes p next.list; word = next.word })

next_after : (keeps : Bool) (t : Tally) (words : List ℕ) (w : ℕ) → IsNextWord keeps t words w → (Contains words w → ⊥) → IsTrue (is_word_after words w)
next_after keeps t words w (inl plain) absent = plain_follows words w plain absent
next_after keeps t words w (inr next) absent =
    let session = next.session in
    let number = next.number in
    let al : t.session * 262144 + t.mine < 2 ^ 28 = omega arith in
    subst (λ x. IsTrue (is_word_after words x)) (sym next.word)
    (commit_follows words (t.session * 262144 + t.mine) next.changes al next.small next.list (subst (λ x. Contains words x → ⊥) next.word absent))

pub may_put : (cap : ℕ) (v : View) (t : Tally) (words : List ℕ) (w : ℕ) → IsNextWord v.keeps t words w → IsOwn cap t words → (Contains words w → ⊥) → MayPut (with_seen (with_guest v t) words) w
may_put cap v t words w next own absent = record { session = t; guest = refl; after = next_after v.keeps t words w next absent; kind = kind_of next } where
  kind_of : IsNextWord v.keeps t words w → IsTrue (is_plain_word words w) ⊎ IsNextCommit (with_seen (with_guest v t) words) t w
  kind_of (inl plain) = inl plain
  kind_of (inr next) = inr (record { changes = next.changes; keeps = next.keeper; numbered = own.numbered; session = next.session; number = next.number; small = next.small; word = next.word })

-- what a session has once it put a word
pub own_put : (cap : ℕ) (keeps : Bool) (t : Tally) (words : List ℕ) (w : ℕ) → IsNextWord keeps t words w → IsOwn cap t words → (Contains words w → ⊥) → length words < cap → IsOwn cap (counts_word w t) (words ++ w ∷ [])
own_put cap keeps t words w next own absent lt = record {
  log = log_push cap words w own.log (next_after keeps t words w next absent) lt;
  least = own.least;
  most = own.most;
  counted = omega (arith, length-append words (w ∷ []), own.counted);
  numbered = numbers next;
} where
  numbers : IsNextWord keeps t words w → AreNumbered t.session (t.mine + (if is_commit_word w then 1 else 0)) (words ++ w ∷ [])
  numbers (inl plain) =
      let none : t.mine ≡ t.mine + (if is_commit_word w then 1 else 0) = (let z : t.mine ≡ t.mine + 0 = omega arith in z) ∙ ap (λ (b : Bool). t.mine + (if b then 1 else 0)) (sym (plain_kind words w plain)) in
      subst (λ n. AreNumbered t.session n (words ++ w ∷ [])) none (ap (numbers_by t.session) (commits_plain words w plain) ∙ own.numbered)
  numbers (inr next) =
      let c = commit_of words t.session t.mine next.changes in
      let one : t.mine + (if is_commit_word w then 1 else 0) ≡ t.mine + 1 =
      ap (λ (b : Bool). t.mine + (if b then 1 else 0)) (ap is_commit_word next.word ∙ commit_kind t.session t.mine next.changes next.session next.number next.small) in
      ap (λ x. numbers_by t.session (commits_of (words ++ x ∷ []))) next.word
      ∙ ap (numbers_by t.session) (commits_grow t.session t.mine next.changes words next.session next.number next.small)
      ∙ numbers_append t.session (commits_of words) (c ∷ []) ∙ (λ i. own.numbered i ++ numbers_own t.session c [] refl i) ∙ range_next t.mine (t.mine + (if is_commit_word w then 1 else 0)) one

-- an exchange that found a word
pub put_found : (cap : ℕ) (v : View) (t : Tally) (words : List ℕ) (w found : ℕ) (me after : Me ℕ View) → me ≡ (with_seen (with_guest v t) words, []) → IsPut me.0 w found after → found ≢ 0 → IsOwn cap t words → length words < cap
    → IsGrown cap (with_guest v t) words found after
put_found cap v t words w found me after e put ne own lt =
    let P : Me ℕ View → Type 0 = λ x. IsPut x.0 w found after → IsGrown cap (with_guest v t) words found after in
    let there : P (with_seen (with_guest v t) words, []) = (λ r. let h = r.some ne in reads_one cap (with_guest v t) words found after own.log lt h.0 h.1.0 h.1.1) in
    subst P (sym e) there put

-- one that put the word
pub put_none : (v : View) (t : Tally) (words : List ℕ) (w found : ℕ) (me after : Me ℕ View) → me ≡ (with_seen (with_guest v t) words, []) → IsPut me.0 w found after → found ≡ 0
    → after ≡ (with_seen (with_guest v (counts_word w t)) (words ++ w ∷ []), [])
put_none v t words w found me after e put z =
    let P : Me ℕ View → Type 0 = λ x. IsPut x.0 w found after → after ≡ (with_seen (with_guest v (counts_word w t)) (words ++ w ∷ []), []) in
    let there : P (with_seen (with_guest v t) words, []) = (λ r. r.none z) in
    subst P (sym e) there put
