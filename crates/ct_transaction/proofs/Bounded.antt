-- What a statement of a transaction makes is within a bound on its words.
use Rattle.std.proofs.Common.{◌≡◌, ℕ, ◌+◌, ◌≤◌, ◌||◌, Bool, true, false, List, [], length, drop, refl, ap, sym, subst, ◌∙◌, arith}
use Rattle.std.{specs.Prelude.{◌<◌, Option, Some, None, Result, Ok, Err, IsErrOf, if◌then◌else◌}, proofs.lemmas.List.take-append-drop}
use Rattle.ct_word.{specs.Change.PlainCommit, specs.Reading.{commits_of, change_list_at}, specs.Sublist.IsSublist, proofs.Prefixes.commits_prefix}
use Rattle.ct_query.{specs.Agrees.Agrees, specs.Bounds.{bound, change_words, applying_words, commit_words}, specs.Patterns.{patterns, count}, specs.Plain.{PlainAction, PlainStatement}, specs.Schema.schema}
use Rattle.ct_query.proofs.Sublists.{sublist_of_sublist}
use Rattle.ct_arena.specs.Seen.{Seen}
use Rattle.ct_condition.specs.Writes.{charge}
use Rattle.ct_keeper.{specs.Offers.commit_for, specs.Bounds.offer_words, specs.declared.catalogue.Offer.Offer, specs.declared.catalogue.Outcome.Outcome}
use Rattle.ct_keeper.{specs.declared.error.KeeperError.KeeperError, proofs.Counting.patterns_kept}
use Rattle.ct_parse.specs.declared.tree.Statement.{Statement}
use Rattle.ct_resolve.specs.Statements.{resolved}
use Rattle.ct_table.specs.Snapshot.{commits_to}
use Rattle.ct_transcript.{specs.declared.reply.Reply.Reply, specs.declared.reply.Refusal.Refusal}
use Rattle.ct_statement.{specs.Making.{says_full, widths_in, AreLight}, specs.Sources.is_assertion, specs.Proposals.listed, specs.Sight.{actions_before, history_of, IsSight}, proofs.Sights.history_stays, proofs.Weights.{applying_grows, bound_grows, count_grows}}
use Rattle.ct_transaction.{specs.Answers.is_full, specs.Bounded.{Makes, within, Performs, step_words}}
use Rattle.ct_transaction.{specs.Outcomes.outcome_reply, specs.Orders.IsMisplaced, specs.Seeing.{SeesIn, Sees}}
use Rattle.ct_transaction.{specs.State.{Transaction, SessionState, own_actions}, proofs.Going.version_within, proofs.Light.light_offer}
use Rattle.ct_transaction.{specs.declared.state.Open.Open, specs.Sessions.{IsOpen, state_of}}
use mathlib.Core.List.{IsPrefix}
use Rattle.ct_query.specs.Plain as plain
use Rattle.ct_keeper.specs.Faults as faults
use Rattle.ct_keeper.specs.declared.error.KeeperError.TheVariants as fault
use Rattle.ct_keeper.specs.declared.catalogue.Outcome.TheVariants as outcome
use Rattle.ct_parse.specs.declared.tree.Statement.TheVariants as tree
use Rattle.ct_transcript.specs.declared.reply.Reply.TheVariants as reply
use Rattle.ct_transcript.specs.declared.reply.Refusal.TheVariants as refusal

-- what is seen at some commits is seen after more
pub sees_later : (g H : List PlainCommit) (t : Option Transaction) (s : SessionState) (at : ℕ) (actions : List PlainAction) → at ≤ length H → SeesIn g t s at actions → SeesIn H t s at actions
sees_later g H None s at actions le sees = (sees.0, le, sees.2)
sees_later g H (Some t) s at actions le sees = sees

-- the words of a statement without those of a commit are within its bound
own_least : (counts widths : List ℕ → ℕ) (own : Option (List PlainAction)) (asked : PlainStatement) → bound counts widths (Some []) asked ≤ bound counts widths own asked
own_least counts widths own (plain.Act a) = omega arith
own_least counts widths own _ = omega arith

-- the words of a step that is made are those of applying its action
pub stepped : (inside : Bool) (counts : List ℕ → ℕ) (a : PlainAction) → (inside || is_assertion a) ≡ true → step_words inside counts a ≡ applying_words counts a
stepped inside counts a made = ap (λ b. if b then applying_words counts a else 0) made

-- the words of the step of an action are at most those of applying it
pub step_within : (inside : Bool) (counts : List ℕ → ℕ) (a : PlainAction) → step_words inside counts a ≤ applying_words counts a
step_within inside counts a = by_test (inside || is_assertion a) where
  by_test : (b : Bool) → (if b then applying_words counts a else 0) ≤ applying_words counts a
  by_test true = omega arith
  by_test false = omega arith

-- nor do they fall as rows come to the tables
pub step_grows : (f g : List ℕ → ℕ) → ((t : List ℕ) → f t ≤ g t) → (a : PlainAction) → step_words false f a ≤ step_words false g a
step_grows f g each a = by_test (is_assertion a) where
  by_test : (b : Bool) → (if b then applying_words f a else 0) ≤ (if b then applying_words g a else 0)
  by_test true = applying_grows f g each a
  by_test false = omega arith

-- what a statement made is within its bound in a transaction without actions
pub performs_within : (inside : Bool) (counts widths : List ℕ → ℕ) (asked : PlainStatement) (made made' : ℕ) → Performs inside counts widths asked made made' → made' ≤ made + bound counts widths (Some []) asked
performs_within inside counts widths (plain.Act a) made made' few = let step = step_within inside counts a in omega (arith, few, step)
performs_within inside counts widths (plain.Asks k columns q) made made' few = few
performs_within inside counts widths plain.Begin made made' few = few
performs_within inside counts widths plain.Commit made made' few = few
performs_within inside counts widths plain.Rollback made made' few = few

-- as much as is said, or less
pub performs_less : (inside : Bool) (counts widths : List ℕ → ℕ) (asked : PlainStatement) (made most made' : ℕ) → made' ≤ most → Performs inside counts widths asked made most
    → Performs inside counts widths asked made made'
performs_less inside counts widths (plain.Act a) made most made' le few = omega (arith, le, few)
performs_less inside counts widths (plain.Asks k columns q) made most made' le few = omega (arith, le, few)
performs_less inside counts widths plain.Begin made most made' le few = omega (arith, le, few)
performs_less inside counts widths plain.Commit made most made' le few = omega (arith, le, few)
performs_less inside counts widths plain.Rollback made most made' le few = omega (arith, le, few)

-- the commits of a version count no more rows than all
pub version_counts : (words : List ℕ) (version : ℕ) (actions : List PlainAction) (t : List ℕ) → count (commits_to words version) actions t ≤ count (commits_of words) actions t
version_counts words version actions t = count_grows (commits_to words version) (commits_of words) (drop version (commits_of words), take-append-drop version (commits_of words)) actions t

-- what was made at a version of the words
pub makes_there : (s : SessionState) (words : List ℕ) (st : Statement) (at : ℕ) (actions : List PlainAction) (asked : PlainStatement) (made made' : ℕ) → at ≤ length (commits_of words)
    → Sees (commits_of words) s at actions → resolved (schema (commits_to words at) actions) s.session s.fresh st ≡ Ok asked
    → made' ≤ made + bound (count (commits_to words at) actions) (widths_in (schema (commits_to words at) actions).tables) (Some []) asked → Makes s words st made made'
makes_there s words st at actions asked made made' le sees res few =
    within at actions asked le sees res (
    let widths = widths_in (schema (commits_to words at) actions).tables in
    let grown = bound_grows (count (commits_to words at) actions) (count (commits_of words) actions) (version_counts words at actions) widths (Some []) asked in
    let more = own_least (count (commits_of words) actions) widths (own_actions s) asked in
    omega (arith, few, grown, more)
    )

-- a refusal is charged where it says that the log is full
pub refused_full : (at : ℕ) (why : Refusal) → is_full (reply.Refused at why) ≡ says_full why
refused_full at refusal.Full = refl
refused_full at _ = refl

-- the reply to an offer is charged as the offer is
pub outcome_full : (seen base : ℕ) (r : Result Outcome KeeperError) → is_full (outcome_reply seen base r) ≡ faults.is_full r
outcome_full seen base (Ok (outcome.Committed m)) = refl
outcome_full seen base (Ok outcome.Nothing) = refl
outcome_full seen base (Ok (outcome.Conflict table was now at)) = refl
outcome_full seen base (Err fault.Full) = refl
outcome_full seen base (Err fault.Memory) = refl

-- COMMIT of an open transaction, whose change list is offered
module _ (pass : Seen) (o : Open) (k : IsOpen pass.words o) (offer : Offer) (same : o.changes ≡ Some offer.changes) (pass' : Seen) (longer : IsPrefix pass.words pass'.words) where
  abbrev base : List PlainCommit
  base = history_of pass.words o.sight

  abbrev actions : List PlainAction
  actions = actions_before o.sight

  patterns_stay : (n : List ℕ) → IsSublist (patterns base [] n) (patterns (commits_of pass'.words) [] n)
  patterns_stay n =
      let cs = commits_of pass.words in
      sublist_of_sublist _ _ _ (patterns_kept base cs (drop o.sight.version cs, take-append-drop o.sight.version cs) n)
      (patterns_kept cs (commits_of pass'.words) (commits_prefix pass.words pass'.words longer) n)

  listed_is : listed pass.words o.changes ≡ change_list_at pass.words offer.changes
  listed_is = ap (listed pass.words) same

  commit_counted : offer_words pass'.words pass offer ≤ commit_words (count (commits_of pass'.words) actions) actions
  commit_counted =
      light_offer base (commits_of pass'.words) patterns_stay actions (commit_for pass offer) (subst (Agrees base actions) listed_is k.agrees)
      (subst (AreLight (count base actions) actions) listed_is k.light)

  pub commit_makes : (seen fresh : ℕ) (st : Statement) (made' : ℕ) → st ≡ tree.Commit → made' ≤ pass.made + offer_words pass'.words pass offer
      → Makes (state_of pass seen fresh (Some o)) pass'.words st pass.made made'
  commit_makes seen fresh st made' order few =
      within o.sight.version actions plain.Commit (version_within pass.words pass'.words longer o.sight.version k.sight.within) (refl, refl)
      (ap (resolved (schema (commits_to pass'.words o.sight.version) actions) pass.session fresh) order)
      (let counted = commit_counted in omega (arith, few, counted))

-- the words of a change and those of its step
pub changed_within : (inside : Bool) (counts widths : List ℕ → ℕ) (a : PlainAction) (made mid made' : ℕ) → mid + 1 ≤ made + change_words counts widths a → made' ≤ mid + step_words inside counts a
    → Performs inside counts widths (plain.Act a) made made'
changed_within inside counts widths a made mid made' first rest = omega (arith, first, rest)

-- what a statement of a transaction made, over the words that came with it
pub makes_inside : (pass now : Seen) → IsPrefix pass.words now.words → (seen fresh : ℕ) (o : Open) → IsSight pass.words o.sight → (st : Statement) (asked : PlainStatement)
    → resolved (schema (history_of pass.words o.sight) (actions_before o.sight)) pass.session fresh st ≡ Ok asked → (made' : ℕ)
    → Performs true (count (history_of pass.words o.sight) (actions_before o.sight)) (widths_in (schema (history_of pass.words o.sight) (actions_before o.sight)).tables) asked pass.made made'
    → Makes (state_of pass seen fresh (Some o)) now.words st pass.made made'
makes_inside pass now longer seen fresh o is st asked res made' few =
    let stays = history_stays pass.words now.words longer o.sight is.within in
    makes_there (state_of pass seen fresh (Some o)) now.words st o.sight.version (actions_before o.sight) asked pass.made made'
    (version_within pass.words now.words longer o.sight.version is.within) (refl, refl)
    (subst (λ h. resolved (schema h (actions_before o.sight)) pass.session fresh st ≡ Ok asked) stays res)
    (performs_within true (count (history_of now.words o.sight) (actions_before o.sight)) (widths_in (schema (history_of now.words o.sight) (actions_before o.sight)).tables) asked pass.made made'
    (subst (λ h. Performs true (count h (actions_before o.sight)) (widths_in (schema h (actions_before o.sight)).tables) asked pass.made made') stays few))

-- an offer made at most its words, and fewer where the log was full; so says its reply
pub offer_charged : (words : List ℕ) (pass : Seen) (offer : Offer) (r : Result Outcome KeeperError) (made' : ℕ) → made' ≤ pass.made + offer_words words pass offer
    → (IsErrOf r fault.Full → made' < pass.made + offer_words words pass offer) → (seen base : ℕ) (said : Reply) → said ≡ outcome_reply seen base r → made' + charge (is_full said) ≤ pass.made + offer_words words pass offer
offer_charged words pass offer r made' most fewer seen base said is =
    subst (λ b. made' + charge b ≤ pass.made + offer_words words pass offer) (sym (ap is_full is ∙ outcome_full seen base r)) (by_outcome r most fewer) where
      by_outcome : (q : Result Outcome KeeperError) → made' ≤ pass.made + offer_words words pass offer → (IsErrOf q fault.Full → made' < pass.made + offer_words words pass offer)
          → made' + charge (faults.is_full q) ≤ pass.made + offer_words words pass offer
      by_outcome (Err fault.Full) le lt = let less = lt refl in omega (arith, less)
      by_outcome (Err fault.Memory) le lt = omega (arith, le)
      by_outcome (Ok out) le lt = omega (arith, le)

-- an order in the wrong place finds no full log
pub misplaced_room : (at : ℕ) (open' : Option Open) (st : Statement) (why : Refusal) → IsMisplaced open' st why → is_full (reply.Refused at why) ≡ false
misplaced_room at (Some o) tree.Begin refusal.InTransaction m = refl
misplaced_room at None tree.Commit refusal.NoTransaction m = refl
misplaced_room at None tree.Rollback refusal.NoTransaction m = refl
misplaced_room at _ _ _ m = absurd m
