-- What an offer is found to be, and the outcome that is told of it.
use Rattle.std.{proofs.Common.{◌≡◌, ◌≢◌, ℕ, List, [], ◌∷◌, true, length, map, take, refl, ap, sym, subst, ◌∙◌}, specs.Prelude.{Result, Ok, Err, IsErr}}
use Rattle.std.proofs.lemmas.Bool.{false≢true}
use Rattle.ct_word.{specs.Change.{PlainChange, PlainCommit}, specs.Reading.commits_of}
use Rattle.ct_query.specs.Reads.{last}
use Rattle.ct_arena.specs.Seen.{Seen}
use Rattle.ct_keeper.{specs.declared.catalogue.Offer.Offer, specs.declared.catalogue.Outcome.Outcome, specs.declared.error.KeeperError.KeeperError}
use Rattle.ct_keeper.{specs.declared.verdict.Verdict.Verdict, specs.Catalogue.Catalogue, specs.Conflicting.{told, told_or, IsConflictAfter}}
use Rattle.ct_keeper.{specs.Faults.is_full, specs.Offers.{changes_in, IsUnchanged, IsUncommitted, BecomesOf}}
use Rattle.ct_history.{specs.declared.written.Written.Written, specs.Written.plain_written}
use Rattle.ct_keeper.specs.declared.catalogue.Outcome.TheVariants as outcome
use Rattle.ct_keeper.specs.declared.error.KeeperError.TheVariants as fault
use Rattle.ct_keeper.specs.declared.verdict.Verdict.TheVariants as verdict

-- changes that are some stand for some
pub some_changes : (words : List ℕ) (changes : List Written) (xs : List PlainChange) → map (plain_written words) changes ≡ xs → changes ≢ [] → xs ≢ []
some_changes words [] xs same some = absurd (some refl)
some_changes words (w ∷ ws) xs same some = λ e. let bad : plain_written words w ∷ map (plain_written words) ws ≡ [] = same ∙ e in cc

abbrev err_of : Result Outcome KeeperError → Result Verdict KeeperError
err_of (Ok o) = Ok verdict.Nothing
err_of (Err e) = Err e

-- an error that is told is one of the verdict
pub told_err : (h : List PlainCommit) (base : ℕ) (r : Result Verdict KeeperError) (e : KeeperError) → told_or h base r ≡ Err e → r ≡ Err e
told_err h base (Ok v) e is = let bad : Ok (told h base v) ≡ Err e = is in cc
told_err h base (Err d) e is = ap err_of is

module _ (cap : ℕ) (old new : Catalogue) (pass pass' : Seen) (offer : Offer) where
  -- a conflict is one
  pub conflict_becomes : (v : Verdict) → IsConflictAfter (commits_of old.words) offer.base offer.reads v → IsUncommitted old new pass pass' → changes_in pass.words offer ≢ []
      → BecomesOf cap old new pass pass' offer (Ok (told (commits_of old.words) offer.base v))
  conflict_becomes (verdict.Conflict table now at) is none some = (none, some, is)
  conflict_becomes _ is none some = absurd is

  -- neither is a refusal a commit
  pub refusal_becomes : (h : List PlainCommit) (base : ℕ) (r : Result Verdict KeeperError) → IsErr r → IsUncommitted old new pass pass' → changes_in pass.words offer ≢ [] → IsUnchanged old.words offer
      → (is_full r ≡ true → length new.words ≡ cap) → BecomesOf cap old new pass pass' offer (told_or h base r)
  refusal_becomes h base (Ok v) is none some unchanged full = absurd (false≢true is)
  refusal_becomes h base (Err fault.Full) is none some unchanged full = (none, some, unchanged, full refl)
  refusal_becomes h base (Err fault.Memory) is none some unchanged full = none

  -- what is told by the words after it is what is told by those before
  pub told_later : (words : List ℕ) → words ≡ new.words → (v : Result Verdict KeeperError) → BecomesOf cap old new pass pass' offer (told_or (commits_of old.words) offer.base v)
      → BecomesOf cap old new pass pass' offer (told_or (commits_of words) offer.base v)
  told_later words are (Ok (verdict.Conflict table now at)) b =
      subst (λ h. BecomesOf cap old new pass pass' offer (Ok (outcome.Conflict table (last (take offer.base h) table) now at))) (sym (ap commits_of are ∙ b.0.stays.commits)) b
  told_later words are _ b = b
