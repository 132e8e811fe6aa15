-- An offer, and what becomes of it, for a session that brings fewer words than the keeper then has.
use Rattle.std.{proofs.Common.{◌≡◌, ◌≢◌, ℕ, ◌+◌, List, [], ◌∷◌, ◌++◌, length, take, ap, sym, subst, ◌∙◌, arith}, specs.Prelude.{IsTrue, All, Result, Ok, Err}}
use Rattle.std.{specs.List.{Contains, list_all}, proofs.lemmas.List.take-append-le}
use Rattle.ct_word.{specs.Change.PlainCommit, specs.Reading.{commits_of, change_list_at}, specs.WellFormed.IsWellFormed, specs.Writable.is_writable}
use Rattle.ct_word.proofs.Prefixes.{place_within, place_in_prefix, prefix_of_prefix, change_list_in_prefix, commits_prefix}
use Rattle.ct_query.{specs.Fits.FitAfter, specs.Frame.creates, specs.Patterns.count}
use Rattle.ct_arena.specs.Seen.{Seen, tally_of, pass_of}
use Rattle.ct_table.{specs.Snapshot.{IsKeptWorld, commits_to}, proofs.Snapshots.kept_grows}
use Rattle.ct_keeper.{specs.declared.catalogue.Offer.Offer, specs.declared.catalogue.Outcome.Outcome, specs.declared.error.KeeperError.KeeperError}
use Rattle.ct_keeper.{specs.Bounds.{commit_words, offer_words}, specs.Catalogue.{Catalogue, Stays}, proofs.Interning.prefix_short}
use Rattle.ct_keeper.specs.Offers.{changes_in, commit_for, has_assertion, IsOffer, AreUnchanged, IsUnchanged, IsCommitted, IsUncommitted, IsConflict, BecomesOf, kept_in}
use mathlib.Core.List.{IsPrefix}
use Rattle.ct_word.specs.declared.kinds.Class.TheVariants as class
use Rattle.ct_keeper.specs.declared.catalogue.Outcome.TheVariants as outcome
use Rattle.ct_keeper.specs.declared.error.KeeperError.TheVariants as fault

module _ (pass : Seen) (words : List ℕ) (longer : IsPrefix pass.words words) (formed : IsWellFormed words) (offer : Offer) (is : IsOffer pass offer) where
  abbrev entered : Seen
  entered = pass_of (tally_of pass) words

  pub same_list : change_list_at words offer.changes ≡ change_list_at pass.words offer.changes
  same_list = change_list_in_prefix pass.words words offer.changes longer (place_within pass.words class.ChangeList offer.changes is.place)

  same_base : commits_to words offer.base ≡ commits_to pass.words offer.base
  same_base =
      let p = commits_prefix pass.words words longer in
      sym (ap (take offer.base) p.1) ∙ take-append-le offer.base (commits_of pass.words) p.0 is.seen

  pub same_commit : commit_for entered offer ≡ commit_for pass offer
  same_commit = λ i. record { session = pass.session; number = pass.mine; changes = same_list i }

  pub offer_grows : IsOffer entered offer
  offer_grows = record {
    seen = let p = commits_prefix pass.words words longer in let short = prefix_short {A = PlainCommit} (commits_of pass.words) (commits_of words) p in omega (arith, short, is.seen);
    place = place_in_prefix pass.words words class.ChangeList offer.changes longer is.place;
    fits = subst (λ h. FitAfter h (change_list_at words offer.changes)) (sym same_base) (subst (FitAfter (commits_to pass.words offer.base)) (sym same_list) is.fits);
    writable = subst (λ xs. IsTrue (list_all is_writable xs)) (sym same_list) is.writable;
    creations = subst (λ xs. All (Contains offer.reads) (creates xs)) (sym same_list) is.creations;
    leaves = λ has. let left = is.leaves (subst has_assertion same_list has) in record {
      reads = left.reads;
      world =
          subst (λ h. IsKeptWorld words (h ++ commit_for entered offer ∷ []) [] (kept_in offer)) (sym same_base)
          (subst (λ c. IsKeptWorld words (commits_to pass.words offer.base ++ c ∷ []) [] (kept_in offer)) (sym same_commit)
          (kept_grows pass.words words longer formed (commits_to pass.words offer.base ++ commit_for pass offer ∷ []) [] (kept_in offer) left.world));
    };
  }

  -- the words of the offer are bounded by the same counts once the session has entered
  pub words_entered : (old : List ℕ) → commits_of words ≡ commits_of old → offer_words words entered offer ≡ offer_words old pass offer
  words_entered old come = λ i. commit_words (count (come i ++ same_commit i ∷ []) []) (same_list i)

  module _ (cap : ℕ) (old mid new : Catalogue) (same_words : mid.words ≡ words) (come : Stays old mid) (after : Seen) where
    same_history : commits_of mid.words ≡ commits_of old.words
    same_history = come.commits

    stays_from : Stays mid new → Stays old new
    stays_from s = record {
      longer = prefix_of_prefix old.words mid.words new.words come.longer s.longer;
      commits = s.commits ∙ come.commits;
      tables = s.tables ∙ come.tables;
      global = s.global ∙ come.global;
      kept = s.kept ∙ come.kept;
    }

    none_from : IsUncommitted mid new entered after → IsUncommitted old new pass after
    none_from u = record { stays = stays_from u.stays; mine = u.mine }

    unchanged_from : IsUnchanged mid.words offer → IsUnchanged old.words offer
    unchanged_from u = subst (λ h. AreUnchanged h offer.base offer.reads) come.commits u

    some_from : changes_in words offer ≢ [] → changes_in pass.words offer ≢ []
    some_from = subst (λ xs. xs ≢ []) same_list

    committed_from : (m : ℕ) → IsCommitted mid new entered after offer m → IsCommitted old new pass after offer m
    committed_from m c = record {
      has_changes = some_from c.has_changes;
      unchanged = unchanged_from c.unchanged;
      number = c.number ∙ ap (λ h. length h + 1) come.commits;
      commits = c.commits ∙ (λ i. come.commits i ++ same_commit i ∷ []);
      longer = prefix_of_prefix old.words mid.words new.words come.longer c.longer;
      grown = let short = prefix_short {A = ℕ} pass.words words longer in omega (arith, short, c.grown);
      mine = c.mine;
    }

    -- what becomes of the offer of the session that entered
    pub becomes_from : (r : Result Outcome KeeperError) → BecomesOf cap mid new entered after offer r → BecomesOf cap old new pass after offer r
    becomes_from (Ok (outcome.Committed m)) b = committed_from m b
    becomes_from (Ok outcome.Nothing) b = (none_from b.0, sym same_list ∙ b.1)
    becomes_from (Ok (outcome.Conflict table was now at)) b =
        (none_from b.0, some_from b.1, subst (λ h. IsConflict h offer.base offer.reads table was now at) come.commits b.2)
    becomes_from (Err fault.Full) b = (none_from b.0, some_from b.1, unchanged_from b.2, b.3)
    becomes_from (Err fault.Memory) b = none_from b
