-- Which commit was the last to write what is read, and the first of the reads that one after a base has written.
use Rattle.std.proofs.Common.{◌≡◌, ℕ, zero, suc, ◌+◌, ◌<◌, ◌≤◌, Bool, false, List, [], ◌∷◌, ◌++◌, length, take, drop, get_or, ap, sym, subst, ◌∙◌, arith, drop-cons}
use Rattle.std.{proofs.lemmas.List.{take_more, take-append-drop}, proofs.lemmas.List.Elements.All-push}
use Rattle.ct_word.specs.Change.{PlainCommit}
use Rattle.ct_query.{specs.declared.action.Read.Read, specs.Reads.{commit_writes, one_earlier, last}}
use Rattle.ct_keeper.specs.Offers.{AreUnchanged, IsFirstWritten}

-- no commit after the last writes
pub last_within : (h : List PlainCommit) (r : Read) → last h r ≤ length h
last_within [] r = omega arith
last_within (c ∷ h) r = by_last (last h r) (commit_writes c r) (last_within h r) where
  by_last : (m : ℕ) (b : Bool) → m ≤ length h → one_earlier m b ≤ suc (length h)
  by_last zero false l = omega arith
  by_last _ _ l = omega arith

-- nothing is changed after a base that has all commits
pub all_unchanged : (h : List PlainCommit) (base : ℕ) (reads : List Read) → length h ≤ base → AreUnchanged h base reads
all_unchanged h base reads le = λ k d lt. let w = last_within h (get_or reads k d) in omega (arith, w)

-- as far as the reads were asked
module _ (h : List PlainCommit) (base : ℕ) (reads : List Read) (i : ℕ) (r : Read) (is : r ≡ get_or reads i r) (lt : i < length reads) (old : AreUnchanged h base (take i reads)) where
  pub one_more : last h r ≤ base → AreUnchanged h base (take (i + 1) reads)
  one_more le =
      subst (AreUnchanged h base) (ap (λ x. take i reads ++ x ∷ []) is ∙ sym (take_more reads i r lt)) (All-push (λ s. last h s ≤ base) (take i reads) r old le)

  pub first_written : base < last h r → IsFirstWritten h base reads r
  first_written late = record {
    before = take i reads;
    after = drop (suc i) reads;
    place = sym (take-append-drop i reads) ∙ ap (λ rest. take i reads ++ rest) (drop-cons reads i r lt) ∙ ap (λ x. take i reads ++ x ∷ drop (suc i) reads) (sym is);
    unchanged = old;
    written = late;
  }
