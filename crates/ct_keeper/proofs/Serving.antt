-- What the keeper's calls promise, for a session that first read on: its offer, what became of it, and the words for it.
use Rattle.std.{proofs.Common.{◌≡◌, ◌≢◌, ℕ, ◌+◌, ◌≤◌, List, [], ◌∷◌, ◌++◌, length, ap, sym, subst, ◌∙◌, arith}, specs.Prelude.{Result, Ok, Err}}
use Rattle.ct_word.{specs.Reading.commits_of, specs.WellFormed.IsWellFormed, proofs.Prefixes.{commits_prefix, prefix_of_prefix}}
use Rattle.ct_query.specs.Patterns.{count}
use Rattle.ct_arena.specs.Seen.{Seen, tally_of, pass_of}
use Rattle.ct_keeper.{specs.declared.catalogue.Offer.Offer, specs.declared.catalogue.Outcome.Outcome, specs.declared.error.KeeperError.KeeperError}
use Rattle.ct_keeper.{specs.Bounds.{commit_words, offer_words}, specs.Catalogue.Catalogue, specs.Served.{IsLastCommit, IsHeldBack, IsOutcome}}
use Rattle.ct_keeper.specs.Offers.{changes_in, commit_for, IsOffer, AreUnchanged, IsCommitted, IsUncommitted, IsConflict, BecomesOf}
use Rattle.ct_keeper.{proofs.Counting.commit_grows, proofs.Entering.{same_list, same_commit}, proofs.Interning.prefix_short}
use mathlib.Core.List.{IsPrefix}
use Rattle.ct_keeper.specs.declared.catalogue.Outcome.TheVariants as outcome
use Rattle.ct_keeper.specs.declared.error.KeeperError.TheVariants as fault

-- a pass that has read on is as it was, but for its words
pub read_on : (pass now : Seen) → now.session ≡ pass.session → now.made ≡ pass.made → now.mine ≡ pass.mine → now ≡ pass_of (tally_of pass) now.words
read_on pass now session made mine = λ i. record { session = session i; words = now.words; made = made i; mine = mine i }

-- the keeper's words only grow
pub keeper_grows : (cap : ℕ) (old new : Catalogue) (pass pass' : Seen) (offer : Offer) (r : Result Outcome KeeperError) → BecomesOf cap old new pass pass' offer r → IsPrefix old.words new.words
keeper_grows cap old new pass pass' offer (Ok (outcome.Committed m)) b = b.longer
keeper_grows cap old new pass pass' offer (Err fault.Memory) b = b.stays.longer
keeper_grows cap old new pass pass' offer _ b = b.0.stays.longer

module _ (pass : Seen) (words : List ℕ) (longer : IsPrefix pass.words words) (formed : IsWellFormed words) (offer : Offer) (is : IsOffer pass offer) (old new : Catalogue) (after : Seen)
    (same_words : after.words ≡ new.words) where
  abbrev entered : Seen
  entered = pass_of (tally_of pass) words

  its_list : changes_in words offer ≡ changes_in pass.words offer
  its_list = same_list pass words longer formed offer is

  its_commit : commit_for entered offer ≡ commit_for pass offer
  its_commit = same_commit pass words longer formed offer is

  module _ (known : IsPrefix (commits_of words) (commits_of old.words)) where
    same_history : IsUncommitted old new entered after → commits_of old.words ≡ commits_of after.words
    same_history u = sym (ap commits_of same_words ∙ u.stays.commits)

    some_here : changes_in words offer ≢ [] → changes_in pass.words offer ≢ []
    some_here = subst (λ xs. xs ≢ []) its_list

    held : IsUncommitted old new entered after → changes_in words offer ≢ [] → IsHeldBack pass after offer
    held u some = record { has_changes = some_here some; mine = u.mine }

    last : (m : ℕ) → IsCommitted old new entered after offer m → IsLastCommit pass after offer m
    last m c = record {
      has_changes = some_here c.has_changes;
      before = commits_of old.words;
      longer = prefix_of_prefix (commits_of pass.words) (commits_of words) (commits_of old.words) (commits_prefix pass.words words longer) known;
      commits = ap commits_of same_words ∙ c.commits ∙ ap (λ d. commits_of old.words ++ d ∷ []) its_commit;
      number = c.number;
      unchanged = c.unchanged;
      grown = let short = prefix_short {A = ℕ} pass.words words longer in omega (arith, short, c.grown);
      mine = c.mine;
    }

    -- what an offer became, from what became of it at the keeper
    pub outcome_is : (cap : ℕ) (r : Result Outcome KeeperError) → BecomesOf cap old new entered after offer r → IsOutcome cap pass after offer r
    outcome_is cap (Ok (outcome.Committed m)) b = last m b
    outcome_is cap (Ok outcome.Nothing) b = (b.0.mine, sym its_list ∙ b.1)
    outcome_is cap (Ok (outcome.Conflict table was now at)) b =
        (held b.0 b.1, subst (λ h. IsConflict h offer.base offer.reads table was now at) (same_history b.0) b.2)
    outcome_is cap (Err fault.Full) b =
        (held b.0 b.1, subst (λ h. AreUnchanged h offer.base offer.reads) (same_history b.0) b.2, ap (λ l. length l) same_words ∙ b.3)
    outcome_is cap (Err fault.Memory) b = b.mine

  -- the words for the offer, told from the words that the session then has
  pub words_are : IsPrefix old.words new.words → offer_words old.words entered offer ≤ offer_words after.words pass offer
  words_are goes =
      let same : offer_words old.words entered offer ≡ offer_words old.words pass offer = λ i. commit_words (count (commits_of old.words ++ its_commit i ∷ []) []) (its_list i) in
      let grows =
      commit_grows (commits_of old.words) (commits_of after.words)
      (subst (IsPrefix (commits_of old.words)) (ap commits_of (sym same_words)) (commits_prefix old.words new.words goes)) (commit_for pass offer) (changes_in pass.words offer) in
      omega (arith, same, grows)

-- so many words are within the bound of an offer, where they are so for the pass that has read on
pub made_within : (cap : ℕ) (pass now : Seen) → now.session ≡ pass.session → now.made ≡ pass.made → now.mine ≡ pass.mine → IsPrefix pass.words now.words → IsWellFormed now.words
    → (offer : Offer) → IsOffer pass offer → (old new : Catalogue) (after : Seen) → after.words ≡ new.words → (r : Result Outcome KeeperError) → BecomesOf cap old new now after offer r
    → (n : ℕ) → n ≤ now.made + offer_words old.words now offer → n ≤ pass.made + offer_words after.words pass offer
made_within cap pass now session made mine longer formed offer is old new after same_words r b n le =
    let same = ap (λ p. offer_words old.words p offer) (read_on pass now session made mine) in
    let are = words_are pass now.words longer formed offer is old new after same_words (keeper_grows cap old new now after offer r b) in
    omega (arith, same, are, made, le)
