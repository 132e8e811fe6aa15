-- What a commit of a session is in all words that follow, and in each history that stands for them.
use Rattle.std.proofs.Common.{◌≡◌, ℕ, ◌+◌, ◌-◌, ◌<◌, ◌≤◌, List, [], ◌∷◌, ◌++◌, length, take, refl, ap, sym, subst, ◌∙◌, arith, length-append}
use Rattle.std.{specs.Prelude.{Option, Some, option_map, slice_get}, specs.List.range_with_len, proofs.lemmas.List.take_all}
use Rattle.ct_word.{specs.Change.PlainCommit, specs.Reading.commits_of, specs.StandsFor.StandsFor}
use Rattle.ct_word.proofs.Prefixes.{commits_prefix, get_in_prefix, prefix_of_prefix}
use Rattle.ct_query.{specs.Keeping.{Keeps, KeepsThroughout}, proofs.Keeping.same_throughout}
use Rattle.ct_arena.{specs.Counts.{AreNumbered, numbers_by}, specs.Seen.Seen}
use Rattle.ct_condition.specs.Writes.{kept_of}
use Rattle.ct_keeper.{specs.Offers.commit_for, specs.Served.IsLastCommit, specs.declared.catalogue.Offer.Offer}
use Rattle.ct_transaction.{specs.Answers.{Answers, GoesOn, commits_by}, proofs.Counted.front_and_one, proofs.Sameness.{StandsAs, commits_back, same_commit}}
use Rattle.ct_transaction.{specs.declared.state.Open.Open, specs.Sessions.{state_of, transaction_of}, specs.State.carried, proofs.Own.own_commits_stay}
use Rattle.ct_transaction.{proofs.Going.{front_taken, prefix_short}, proofs.Replies.{Proceeds, carried_same, memory_answers}}
use mathlib.Core.List.{IsPrefix}
use Rattle.ct_transcript.specs.declared.reply.Reply.TheVariants as reply
use Rattle.ct_transcript.specs.declared.reply.Refusal.TheVariants as refusal

-- an offer of a session: these words at its statement's beginning, and what it has seen before it and after
pub record IsCall (N : ℕ) (words : List ℕ) (pass pass' : Seen) : Type 0 where
  pub first : IsPrefix words pass.words
  pub numbered : AreNumbered pass.session pass.mine words
  pub known : AreNumbered pass.session pass.mine pass.words
  pub longer : IsPrefix pass.words pass'.words
  pub session : pass'.session ≡ pass.session
  pub counted : AreNumbered pass'.session pass'.mine pass'.words
  pub room : length pass'.words ≤ N

-- the offer of a session whose statement began with this pass
pub called : (N : ℕ) (start pass pass' : Seen) → IsPrefix start.words pass.words → kept_of pass ≡ kept_of start → AreNumbered start.session start.mine start.words
    → AreNumbered pass.session pass.mine pass.words → IsPrefix pass.words pass'.words → pass'.session ≡ pass.session → AreNumbered pass'.session pass'.mine pass'.words → length pass'.words ≤ N
    → IsCall N start.words pass pass'
called N start pass pass' first kept numbered known longer same counted room =
    let session : start.session ≡ pass.session = cc in
    let mine : start.mine ≡ pass.mine = cc in
    record {
      first = first;
      numbered = subst (λ s. AreNumbered s pass.mine start.words) session (subst (λ m. AreNumbered start.session m start.words) mine numbered);
      known = known;
      longer = longer;
      session = same;
      counted = counted;
      room = room;
    }

-- an offer by which nothing was committed
module _ (N : ℕ) (start pass pass' : Seen) (k : IsCall N start.words pass pass') (mine : pass'.mine ≡ pass.mine) where
  uncommitted_longer : IsPrefix start.words pass'.words
  uncommitted_longer = prefix_of_prefix start.words pass.words pass'.words k.first k.longer

  pub uncommitted_proceeds : Proceeds N pass.session start.words pass'.words
  uncommitted_proceeds = record {
    longer = uncommitted_longer;
    room = k.room;
    own = own_commits_stay pass.session pass.mine start.words pass'.words uncommitted_longer k.numbered
        (subst (λ n. AreNumbered n pass.mine pass'.words) k.session (subst (λ n. AreNumbered pass'.session n pass'.words) mine k.counted));
  }

  pub uncommitted_state : (seen fresh : ℕ) (t : Option Open) → state_of pass seen fresh t ≡ state_of pass' seen fresh t
  uncommitted_state seen fresh t = λ i. record { session = sym k.session i; seen = seen; fresh = fresh; commits = sym mine i; transaction = option_map transaction_of t }

  -- memory was wanting
  pub wanting_answers : (seen fresh : ℕ) (t : Option Open) (x : List ℕ)
      → Answers N (state_of pass seen fresh t) (carried seen (state_of pass' seen fresh t)) start.words pass'.words x (reply.Refused seen refusal.Memory)
  wanting_answers seen fresh t x =
      let s = state_of pass seen fresh t in
      subst (λ q. Answers N s (carried seen q) start.words pass'.words x (reply.Refused seen refusal.Memory)) (uncommitted_state seen fresh t)
      (subst (λ q. Answers N s q start.words pass'.words x (reply.Refused seen refusal.Memory)) (sym (carried_same s)) (memory_answers N s start.words pass'.words x uncommitted_proceeds))

-- these commits are the first of all words that follow
module _ (now W : List ℕ) (goes : IsPrefix now W) (H : List PlainCommit) (stands : StandsFor H W) where
  throughout : KeepsThroughout (commits_of W) H
  throughout = same_throughout (commits_of W) H (commits_back H (commits_of W) stands)

  pub keeps_to : (n : ℕ) → n ≤ length (commits_of now) → Keeps (take n (commits_of now)) (take n H)
  keeps_to n le = subst (λ g. Keeps g (take n H)) (front_taken n (commits_of now) (commits_of W) (commits_prefix now W goes) le) (throughout.keeps n)

  pub within_all : length (commits_of now) ≤ length H
  within_all =
      let short = prefix_short (commits_of now) (commits_of W) (commits_prefix now W goes) in
      let same = throughout.length in
      omega (arith, short, same)

-- the commit that an offer has become
module _ (N : ℕ) (words : List ℕ) (pass pass' : Seen) (offer : Offer) (m : ℕ) (k : IsCall N words pass pass') (is : IsLastCommit pass pass' offer m) where
  abbrev g : List PlainCommit
  g = is.before

  abbrev c : PlainCommit
  c = commit_for pass offer

  counted : numbers_by pass.session (g ++ c ∷ []) ≡ range_with_len 0 (pass.mine + 1)
  counted = ap (numbers_by pass.session) (sym is.commits) ∙ ap (λ s. numbers_by s (commits_of pass'.words)) (sym k.session) ∙ k.counted ∙ ap (range_with_len 0) is.mine

  -- it is the session's next
  pub comes : commits_by pass.session 1 (commits_of pass'.words) ≡ commits_by pass.session 1 (commits_of words) ++ m ∷ []
  comes =
      ap (commits_by pass.session 1) is.commits
      ∙ front_and_one pass.session pass.mine (commits_of words) g c refl
      (subst (IsPrefix (commits_of words)) is.commits (commits_prefix words pass'.words (prefix_of_prefix words pass.words pass'.words k.first k.longer))) k.numbered counted
      ∙ ap (λ n. commits_by pass.session 1 (commits_of words) ++ n ∷ []) (sym is.number)

  pub one_before : m - 1 ≡ length is.before
  one_before = let number = is.number in omega (arith, number)

  -- the words before are fewer than the log has room for
  pub had_room : length words < N
  had_room = let short = prefix_short words pass.words k.first in let grown = is.grown in let room = k.room in omega (arith, short, grown, room)

  as_many : length (commits_of pass'.words) ≡ length g + 1
  as_many = ap length is.commits ∙ length-append g (c ∷ [])

  pub as_many_as : length (commits_of pass'.words) ≡ m
  as_many_as = as_many ∙ sym is.number

  module _ (W : List ℕ) (goes : GoesOn N pass'.words W) (H : List PlainCommit) (stands : StandsFor H W) where
    pub before : Keeps is.before (take (m - 1) H)
    before =
        subst (λ l. Keeps l (take (m - 1) H))
        (ap (take (m - 1)) is.commits ∙ front_taken (m - 1) g (g ++ c ∷ []) (c ∷ [], refl) (let one = one_before in omega (arith, one)) ∙ ap (λ n. take n g) one_before ∙ take_all (length g) g (omega arith))
        (keeps_to pass'.words W goes.log H stands (m - 1) (let one = one_before in let more = as_many in omega (arith, one, more)))

    pub there : StandsAs H (m - 1) (commit_for pass offer)
    there =
        same_commit (commits_of W) H (m - 1) c (commits_back H (commits_of W) stands)
        (get_in_prefix (commits_of pass'.words) (commits_of W) (m - 1) (commits_prefix pass'.words W goes.log) (let one = one_before in let more = as_many in omega (arith, one, more))
        ∙ (λ i. slice_get (is.commits i) (one_before i)) ∙ last_there g c) where
          last_there : (h : List PlainCommit) (d : PlainCommit) → slice_get (h ++ d ∷ []) (length h) ≡ Some d
          last_there [] d = refl
          last_there (e ∷ h) d = last_there h d
