-- An insertion by what an earlier one saw: its offer, and what it is answered where that has become a commit.
use Rattle.std.{proofs.Common.{◌≡◌, ◌≤◌, ◌+◌, ℕ, List, [], ◌∷◌, max, length, refl, ap, sym, subst, ◌∙◌, true, false, arith}, specs.Prelude.{◌<◌, Contains, None, Result, Ok, Err, IfOk, IsErrOf, nat_eq}, specs.List.list_all, proofs.lemmas.List.take_all, proofs.lemmas.List.Elements.Contains-append_right, proofs.lemmas.Bool.false≢true}
use Rattle.ct_word.{specs.Change.PlainChange, specs.Reading.commits_of, proofs.Items.{first_item, no_item}, proofs.Prefixes.{commits_prefix, prefix_of_prefix}}
use Rattle.ct_query.{specs.Bounds.bound, specs.Patterns.count, specs.Plain.{PlainAction, PlainStatement}, specs.Reads.action_reads, specs.Schema.schema, specs.declared.schema.Schema.Schema}
use Rattle.ct_resolve.{specs.Conditions.condition_or_true, specs.Names.table_in, specs.Statements.{cells_of, resolved}}
use Rattle.ct_table.specs.Snapshot.{commits_to}
use Rattle.ct_condition.specs.Writes.{charge, kept_of}
use Rattle.ct_statement.{specs.Making.{says_full, widths_in}, specs.Sight.history_of, specs.Unmet.IsWant, proofs.Sights.history_stays, proofs.Weights.action_makes_words}
use Rattle.ct_transcript.specs.declared.reply.Refusal.{Refusal}
use Rattle.ct_arena.specs.Seen.{Seen}
use Rattle.ct_keeper.{specs.Bounds.offer_words, specs.Offers.changes_in, specs.Served.{IsLastCommit, IsOutcome}, specs.declared.catalogue.Offer.Offer, specs.declared.catalogue.Outcome.Outcome}
use Rattle.ct_keeper.specs.declared.error.KeeperError.{KeeperError}
use Rattle.ct_parse.specs.declared.tree.Statement.{Statement}
use Rattle.ct_transaction.{specs.Executes.Executes, specs.Answers.is_full, specs.Outcomes.outcome_reply, specs.Sessions.state_of, specs.State.carried}
use Rattle.ct_transaction.{specs.Bounded.{Makes, within, Performs}, specs.Prepared.{IsNoOrder, IsRefused, unmet}, proofs.Bounded.{offer_charged, step_within}, proofs.Resolving.{after_step, after_test}}
use Rattle.ct_transaction.{proofs.Going.{front_taken, prefix_short, version_within}, proofs.Called.IsCall, proofs.Whole.committed_seen}
use Rattle.ct_session.{specs.Outcomes.{CommitsOrWants, IsCommittedOr}, specs.Offering.{IsFoundAlone, IsInsertion, IsReadyToOffer, IsRowInsertion, inserts_rows, InsertsRows, IsLiteralAct}}
use Rattle.ct_session.{specs.declared.offering.Offering.Offering, proofs.Bounded.{alone_counted, charged_less, one_asked, resolves_now, resolves_on}}
use Rattle.ct_session.proofs.Committed.{committed_from}
use mathlib.Core.List.{IsPrefix}
use Rattle.ct_query.specs.Plain as plain
use Rattle.ct_parse.specs.declared.tree.Statement.TheVariants as tree
use Rattle.ct_resolve.specs.declared.error.ResolveError.TheVariants as name
use Rattle.ct_keeper.specs.declared.catalogue.Outcome.TheVariants as outcome
use Rattle.ct_keeper.specs.declared.error.KeeperError.TheVariants as fault
use Rattle.ct_transcript.specs.declared.reply.Reply.TheVariants as reply
use Rattle.ct_transcript.specs.declared.reply.Refusal.TheVariants as refusal

failed : {m : ℕ} {why : Refusal} → ◌≡◌ {A = Result ℕ Refusal} (Err why) (Ok m) → ⊥
failed e = cc

one_refusal : {x y : Refusal} → ◌≡◌ {A = Result ℕ Refusal} (Err x) (Err y) → x ≡ y
one_refusal p = cc

-- a session goes on
pub session_stays : (begun now : Seen) → kept_of now ≡ kept_of begun → now.session ≡ begun.session
session_stays begun now kept = cc

-- an insertion of written rows is no order
pub insertion_plain : (st : Statement) → IsRowInsertion st → IsNoOrder st
insertion_plain (tree.InsertRows name r rs c) is = tt
insertion_plain _ is = absurd is

-- and resolves to one
rows_found : (s : Schema) (session fresh : ℕ) (st : Statement) → IsRowInsertion st → IfOk (resolved s session fresh st) InsertsRows
rows_found s session fresh (tree.InsertRows t r rs c) is =
    after_step InsertsRows (table_in s.tables t) _ (λ h. after_test InsertsRows (list_all (λ w. nat_eq (length (cells_of w)) (length h.columns)) (r ∷ rs)) name.ColumnCount _ (after_step InsertsRows (condition_or_true [] c) _ (λ d. refl)))
rows_found s session fresh _ is = absurd is

pub insertion_rows : (s : Schema) (session fresh : ℕ) (st : Statement) (asked : PlainStatement) → IsRowInsertion st → resolved s session fresh st ≡ Ok asked → InsertsRows asked
insertion_rows s session fresh st asked is e = subst (λ r. IfOk r InsertsRows) e (rows_found s session fresh st is)

-- an insertion of written rows is all in its text
pub rows_literal : (asked : PlainStatement) → InsertsRows asked → IsLiteralAct asked
rows_literal (plain.Act (plain.InsertRows name rs c)) is = refl
rows_literal (plain.Act _) is = absurd (false≢true is)
rows_literal _ is = absurd is

-- and reads nothing
none_read : (a : PlainAction) → inserts_rows a ≡ true → action_reads a ≡ []
none_read (plain.InsertRows name rs c) is = refl
none_read _ is = absurd (false≢true is)

-- an offer that became a commit is the last one of the words
pub last_commit : (N : ℕ) (pass pass' : Seen) (offer : Offer) (r : Result Outcome KeeperError) (m : ℕ) → IsCommittedOr r (Ok m) → IsOutcome N pass pass' offer r → IsLastCommit pass pass' offer m
last_commit N pass pass' offer (Ok (outcome.Committed n)) m e is = let same : n ≡ m = cc in subst (IsLastCommit pass pass' offer) same is
last_commit N pass pass' offer (Err fault.Full) m e is = absurd (failed (sym e))
last_commit N pass pass' offer (Err fault.Memory) m e is = absurd (failed (sym e))
last_commit N pass pass' offer _ m e is = absurd e

-- one that became none committed nothing, and says what is wanting
module _ (N : ℕ) (pass pass' : Seen) (offer : Offer) where
  pub none_committed : (r : Result Outcome KeeperError) (why : Refusal) → IsCommittedOr r (Err why) → IsOutcome N pass pass' offer r → pass'.mine ≡ pass.mine
  none_committed (Ok (outcome.Committed n)) why e is = absurd (failed e)
  none_committed (Err fault.Full) why e is = is.0.mine
  none_committed (Err fault.Memory) why e is = is
  none_committed _ why e is = absurd e

  pub outcome_wants : (r : Result Outcome KeeperError) (why : Refusal) → IsCommittedOr r (Err why) → IsOutcome N pass pass' offer r → IsWant N pass'.words why
  outcome_wants (Ok (outcome.Committed n)) why e is = absurd (failed e)
  outcome_wants (Err fault.Full) why e is = subst (IsWant N pass'.words) (one_refusal (sym e)) is.2
  outcome_wants (Err fault.Memory) why e is = subst (IsWant N pass'.words) (one_refusal (sym e)) tt
  outcome_wants _ why e is = absurd e

  -- an offer with a change that read nothing
  pub commits_or_wants : (change : PlainChange) → changes_in pass.words offer ≡ change ∷ [] → offer.reads ≡ [] → (r : Result Outcome KeeperError) → IsOutcome N pass pass' offer r → CommitsOrWants r
  commits_or_wants change one none (Ok outcome.Nothing) is = let bad = ap length (sym is.1 ∙ one) in omega (arith, bad)
  commits_or_wants change one none (Ok (outcome.Conflict table was now at)) is =
      let first = is.1.first in
      no_item table (subst (λ rs. Contains rs table) (sym first.place ∙ none) (Contains-append_right first.before (table ∷ first.after) table (first_item first.after table)))
  commits_or_wants change one none (Ok (outcome.Committed m)) is = tt
  commits_or_wants change one none (Err fault.Full) is = tt
  commits_or_wants change one none (Err fault.Memory) is = tt

-- an offer that became none made at most its words, and fewer where it says that the log is full
pub offer_wanted : (words : List ℕ) (pass : Seen) (offer : Offer) (r : Result Outcome KeeperError) (made' : ℕ) → made' ≤ pass.made + offer_words words pass offer
    → (IsErrOf r fault.Full → made' < pass.made + offer_words words pass offer) → (why : Refusal) → IsCommittedOr r (Err why) → made' + charge (says_full why) ≤ pass.made + offer_words words pass offer
offer_wanted words pass offer r made' most fewer why e =
    let all = offer_charged words pass offer r made' most fewer 0 0 (outcome_reply 0 0 r) refl in
    let less = charged_less (says_full why) (is_full (outcome_reply 0 0 r)) (so r e) in
    omega (arith, all, less) where
      so : (q : Result Outcome KeeperError) → IsCommittedOr q (Err why) → says_full why ≡ true → is_full (outcome_reply 0 0 q) ≡ true
      so (Ok (outcome.Committed n)) is full = absurd (failed is)
      so (Err fault.Full) is full = refl
      so (Err fault.Memory) is full = absurd (false≢true (ap says_full (one_refusal (sym is)) ∙ full))
      so _ is full = absurd is

-- an insertion of written rows is one over further words
pub insertion_grows : (pass pass' : Seen) → IsPrefix pass.words pass'.words → pass'.session ≡ pass.session → (fresh : ℕ) (st : Statement) → IsInsertion pass fresh st → IsInsertion pass' fresh st
insertion_grows pass pass' longer same fresh st i =
    let all = length (commits_of pass.words) in
    let front : commits_of pass.words ≡ commits_to pass'.words all =
    sym (front_taken all (commits_of pass.words) (commits_of pass'.words) (commits_prefix pass.words pass'.words longer) (omega arith) ∙ take_all all (commits_of pass.words) (omega arith)) in
    record {
      action = i.action;
      inserts = i.inserts;
      resolves = resolves_now pass'.words all pass'.session fresh st i.action i.inserts
          (subst (λ n. resolved (schema (commits_to pass'.words all) []) n fresh st ≡ Ok (plain.Act i.action)) (sym same)
          (subst (λ h. resolved (schema h []) pass.session fresh st ≡ Ok (plain.Act i.action)) front i.resolves));
    }

-- an insertion of written rows by what an earlier one saw, over the words that came with its change
module _ (begun now : Seen) (longer : IsPrefix begun.words now.words) (same : now.session ≡ begun.session) (seen fresh base : ℕ) (seen_is : seen ≤ length (commits_of begun.words)) (st : Statement)
    (asked : PlainStatement) (found : IsFoundAlone begun fresh base st asked) (rows : InsertsRows asked) where
  -- it is resolved so at the version that was seen
  resolves_there : resolved (schema (commits_to now.words base) []) now.session fresh st ≡ Ok asked
  resolves_there =
      subst (λ n. resolved (schema (commits_to now.words n) []) now.session fresh st ≡ Ok asked) (sym found.base_is)
      (subst (λ n. resolved (schema (commits_to now.words found.sight.version) []) n fresh st ≡ Ok asked) (sym same)
      (subst (λ h. resolved (schema h []) begun.session fresh st ≡ Ok asked) (history_stays begun.words now.words longer found.sight found.sees.sight.within)
      (subst (λ before. resolved (schema (history_of begun.words found.sight) before) begun.session fresh st ≡ Ok asked) found.sees.none found.found.resolves)))

  -- at a version of all commits
  makes_all : (after : Seen) → IsPrefix begun.words after.words → after.session ≡ begun.session → (q : PlainStatement) → resolved (schema (commits_of after.words) []) after.session fresh st ≡ Ok q
      → (made' : ℕ) → made' ≤ begun.made + bound (count (commits_of after.words) []) (widths_in (schema (commits_of after.words) []).tables) None q → Makes (state_of begun seen fresh None) after.words st begun.made made'
  makes_all after longer' same' q res made' few =
      let all = length (commits_of after.words) in
      let low = version_within begun.words after.words longer' seen seen_is in
      let whole = sym (take_all all (commits_of after.words) (omega arith)) in
      within all [] q (omega arith) (low, omega arith, refl)
      (subst (λ n. resolved (schema (commits_to after.words all) []) n fresh st ≡ Ok q) same' (subst (λ h. resolved (schema h []) after.session fresh st ≡ Ok q) whole res))
      (subst (λ h. made' ≤ begun.made + bound (count (commits_of after.words) []) (widths_in (schema h []).tables) None q) whole few)

  -- there was no room for its change, or no memory
  module _ (made made' : ℕ) (done : (counts widths : List ℕ → ℕ) → Performs false counts widths asked begun.made made) (le : made' ≤ made) where
    pub unmade_makes : Makes (state_of begun seen fresh None) now.words st begun.made made'
    unmade_makes = by_asked asked rows resolves_there (done (count (commits_of now.words) []) (widths_in (schema (commits_of now.words) []).tables)) where
      by_asked : (q : PlainStatement) → InsertsRows q → resolved (schema (commits_to now.words base) []) now.session fresh st ≡ Ok q
          → Performs false (count (commits_of now.words) []) (widths_in (schema (commits_of now.words) []).tables) q begun.made made → Makes (state_of begun seen fresh None) now.words st begun.made made'
      by_asked (plain.Act a) is res few =
          makes_all now longer same (plain.Act a) (resolves_now now.words base now.session fresh st a is res) made'
          (let step = step_within false (count (commits_of now.words) []) a in omega (arith, few, le, step))
      by_asked _ is res few = absurd is

  pub unmade_insertion : IsInsertion now fresh st
  unmade_insertion = by_asked asked rows resolves_there where
    by_asked : (q : PlainStatement) → InsertsRows q → resolved (schema (commits_to now.words base) []) now.session fresh st ≡ Ok q → IsInsertion now fresh st
    by_asked (plain.Act a) is res = record { action = a; inserts = is; resolves = resolves_now now.words base now.session fresh st a is res }
    by_asked _ is res = absurd is

  -- it is offered
  module _ (o : Offering) (f : IsReadyToOffer now fresh o st) (base_is : o.offer.base ≡ base) (after : Seen) (later : IsPrefix now.words after.words) (same' : after.session ≡ now.session) where
    action_is : asked ≡ plain.Act f.action
    action_is = one_asked asked (plain.Act f.action) (sym resolves_there ∙ subst (λ n. resolved (schema (commits_to now.words n) []) now.session fresh st ≡ Ok (plain.Act f.action)) base_is f.resolves)

    its_rows : inserts_rows f.action ≡ true
    its_rows = subst InsertsRows action_is rows

    offered_resolves : resolved (schema (commits_of after.words) []) after.session fresh st ≡ Ok (plain.Act f.action)
    offered_resolves = resolves_now after.words o.offer.base after.session fresh st f.action its_rows (resolves_on now fresh o st f after later after.session (sym same'))

    pub offered_insertion : IsInsertion after fresh st
    offered_insertion = record { action = f.action; inserts = its_rows; resolves = offered_resolves }

    -- it read nothing, and has one change
    pub offered_commits : (N : ℕ) (r : Result Outcome KeeperError) → IsOutcome N now after o.offer r → CommitsOrWants r
    offered_commits N = commits_or_wants N now after o.offer f.change f.list_is (f.reads_are ∙ none_read f.action its_rows)

    pub offered_makes : (made' : ℕ) → ((counts widths : List ℕ → ℕ) → Performs false counts widths asked begun.made now.made) → made' ≤ now.made + offer_words after.words now o.offer
        → Makes (state_of begun seen fresh None) after.words st begun.made made'
    offered_makes made' done few =
        let counts = count (commits_of after.words) [] in
        let widths = widths_in (schema (commits_of after.words) []).tables in
        let own = subst (λ q. Performs false counts widths q begun.made now.made) action_is (done counts widths) in
        let counted = alone_counted now fresh o st f after later in
        makes_all after (prefix_of_prefix begun.words now.words after.words longer later) (same' ∙ same) (plain.Act f.action) offered_resolves made' (omega (arith, own, counted, few))

-- the log is full, where the newest version is seen
pub full_refused : (N : ℕ) (pass pass' : Seen) (fresh version : ℕ) (st : Statement) → IsPrefix pass.words pass'.words → pass'.session ≡ pass.session → length pass'.words ≤ N → version ≡ length (commits_of pass'.words)
    → IsInsertion pass fresh st → length pass.words ≡ N → IsRefused (commits_to pass'.words version) [] N pass'.words pass'.session fresh st refusal.Full
full_refused N pass pass' fresh version st longer same room newest i full =
    let j = insertion_grows pass pass' longer same fresh st i in
    let all : commits_of pass'.words ≡ commits_to pass'.words version = sym (ap (λ n. commits_to pass'.words n) newest ∙ take_all (length (commits_of pass'.words)) (commits_of pass'.words) (omega arith)) in
    unmet refusal.Full (record {
      asked = plain.Act j.action;
      resolves = subst (λ h. resolved (schema h []) pass'.session fresh st ≡ Ok (plain.Act j.action)) all j.resolves;
      unmet = record {
        full = let short = prefix_short pass.words pass'.words longer in omega (arith, short, room, full);
        makes_words = λ own. action_makes_words (count (commits_to pass'.words version) []) (widths_in (schema (commits_to pass'.words version) []).tables) own j.action;
      };
    })

-- what an earlier insertion saw, and its change in further words: it is offered, and has become a commit
module _ (begun now : Seen) (same : kept_of now ≡ kept_of begun) (fresh : ℕ) (o : Offering) (st : Statement) (f : IsReadyToOffer now fresh o st) (N seen : ℕ) (seen_is : seen ≤ length (commits_of begun.words))
    (after : Seen) (k : IsCall N begun.words now after) (r : Result Outcome KeeperError) (m : ℕ) (e : IsCommittedOr r (Ok m)) (is : IsOutcome N now after o.offer r) where
  there : seen ≤ length (commits_of now.words)
  there = version_within begun.words now.words k.first seen seen_is

  becomes : IsLastCommit now after o.offer m
  becomes = last_commit N now after o.offer r m e is

  pub known_seen : max seen m ≤ length (commits_of after.words)
  known_seen = committed_seen N begun.words now seen o.offer.base there f.takes.seen after k o.offer m becomes

  pub known_executes : Executes N (state_of begun seen fresh None) (carried m (state_of after seen o.fresh None)) begun.words after.words st (reply.Committed m)
  known_executes = λ x read. committed_from N now seen fresh there o st f begun after k m becomes x read same
