-- A conflict that was found over some words: it is one in all words that follow, and in each history that stands for them.
use Rattle.std.{specs.Prelude.None, proofs.Common.{◌≡◌, ◌⊎◌, ℕ, ◌<◌, ◌≤◌, List, length, take, ap, sym, ◌∙◌, arith}, proofs.lemmas.List.take_all, proofs.lemmas.List.Elements.All-weaker}
use Rattle.ct_word.{specs.Change.PlainCommit, specs.Reading.commits_of, specs.StandsFor.StandsFor}
use Rattle.ct_query.{specs.Reads.last, specs.declared.action.Read.Read}
use Rattle.ct_keeper.{specs.Offers.{IsConflict as MeetsLater}, proofs.Unchanged.last_within}
use Rattle.ct_transaction.{specs.LawfulRefusal.{CommitsAlone, CommitsWhole, IsConflict, IsFirstWritten}, specs.State.{SessionState, carried, with_transaction}}
use Rattle.ct_transaction.proofs.Called.{keeps_to, within_all}
use mathlib.Core.List.{IsPrefix}

module _ (now : List ℕ) (base : ℕ) (reads : List Read) (table : Read) (was latest at : ℕ) (meets : MeetsLater (commits_of now) base reads table was latest at) where
  pub later_than : base < at
  later_than =
      let written = meets.first.written in
      let le = last_within (commits_of now) table in
      let all = meets.at_is in
      omega (arith, written, le, all)

  module _ (W : List ℕ) (goes : IsPrefix now W) (H : List PlainCommit) (stands : StandsFor H W) where
    last_at : (r : Read) → last (commits_of now) r ≡ last (take at H) r
    last_at r =
        let all = meets.at_is in
        ap (λ l. last l r) (sym (take_all at (commits_of now) (omega (arith, all))))
        ∙ (keeps_to now W goes H stands at (omega (arith, all))).last r

    last_was : (r : Read) → last (take base (commits_of now)) r ≡ last (take base H) r
    last_was r = let all = meets.at_is in let lt = later_than in (keeps_to now W goes H stands base (omega (arith, all, lt))).last r

    at_within : at ≤ length H
    at_within = let le = within_all now W goes H stands in let all = meets.at_is in omega (arith, le, all)

    first_written : (N : ℕ) → IsFirstWritten H W N reads base at table
    first_written N = record {
      before = meets.first.before;
      after = meets.first.after;
      place = meets.first.place;
      unchanged = All-weaker (λ r. last (commits_of now) r ≤ base) (λ r. last (take at H) r ≤ base) (λ r p. let same = last_at r in omega (arith, p, same)) meets.first.before meets.first.unchanged;
      written = let p = meets.first.written in let same = last_at table in omega (arith, p, same);
    }

    -- what commits so has met it
    pub conflict_there : (N : ℕ) (s next : SessionState) (x : List ℕ) → CommitsWhole H W N s x base reads ⊎ CommitsAlone H W N s x base reads → next ≡ carried at (with_transaction None s)
        → IsConflict H W N s x table was latest at next
    conflict_there N s next x commits is = record {
      base = base;
      reads = reads;
      commits = commits;
      later = later_than;
      within = at_within;
      first = first_written N;
      was_is = meets.was_is ∙ last_was table;
      now_is = meets.now_is ∙ last_at table;
      next_is = is;
    }
