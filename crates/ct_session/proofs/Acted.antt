-- An action outside a transaction: what it is answered, by what became of its offer.
use Rattle.std.{proofs.Common.{◌≡◌, ℕ, ◌<◌, ◌≤◌, List, [], length, max, take, refl, ap, sym, subst, inr, ◌∙◌, arith}, specs.Prelude.{None, Result, Ok, Err}}
use Rattle.std.proofs.lemmas.Bool.{false≢true}
use Rattle.ct_word.{specs.Change.PlainCommit, specs.Reading.commits_of, specs.StandsFor.StandsFor, proofs.Prefixes.prefix_of_prefix}
use Rattle.ct_query.{specs.Patterns.count, specs.Schema.schema}
use Rattle.ct_query.specs.declared.action.Read.{Read}
use Rattle.ct_arena.specs.Seen.{Seen}
use Rattle.ct_keeper.{specs.declared.error.KeeperError.KeeperError, specs.Offers.{IsConflict as MeetsLater, changes_in}, specs.Served.IsOutcome}
use Rattle.ct_keeper.{specs.declared.catalogue.Offer.Offer, specs.declared.catalogue.Outcome.Outcome}
use Rattle.ct_parse.specs.declared.tree.Statement.{Statement}
use Rattle.ct_resolve.specs.Statements.{resolved}
use Rattle.ct_transcript.specs.declared.reply.Reply.{Reply}
use Rattle.ct_statement.{specs.Making.widths_in, proofs.Weights.action_makes_words}
use Rattle.ct_transaction.{specs.Answers.{GoesOn, Answers}, specs.LawfulRefusal.IsConflict, specs.Seeing.Asks, specs.Sessions.state_of, specs.Executes.Executes}
use Rattle.ct_transaction.{specs.Outcomes.{outcome_reply, outcome_version}, specs.Statements.ReadsAs, specs.State.{SessionState, carried, with_transaction}}
use Rattle.ct_transaction.{proofs.Conflicting.{later_than, conflict_there}, proofs.Called.{IsCall, uncommitted_proceeds, uncommitted_state, wanting_answers}}
use Rattle.ct_transaction.{proofs.Going.{prefix_short, onward}, proofs.Ordered.state_same, proofs.Replies.{Proceeds, answers_uncommitted}}
use Rattle.ct_transaction.proofs.Whole.{replied_seen}
use Rattle.ct_session.{specs.Outcomes.{Begins, fresh_after}, specs.Offering.IsReadyToOffer, specs.declared.offering.Offering.Offering}
use Rattle.ct_session.proofs.Committed.{committed_answers}
use Rattle.ct_query.specs.Plain as plain
use Rattle.ct_keeper.specs.declared.error.KeeperError.TheVariants as fault
use Rattle.ct_keeper.specs.declared.catalogue.Outcome.TheVariants as outcome
use Rattle.ct_transcript.specs.declared.reply.Reply.TheVariants as reply
use Rattle.ct_transcript.specs.declared.reply.Refusal.TheVariants as refusal

module _ (N : ℕ) (pass : Seen) (seen fresh : ℕ) (o : Offering) (st : Statement) (f : IsReadyToOffer pass fresh o st) (le : seen ≤ o.offer.base) where
  -- no version is seen past the commits of the words
  pub ready_seen : (pass' : Seen) → IsCall N pass.words pass pass' → (r : Result Outcome KeeperError) → IsOutcome N pass pass' o.offer r → (at : ℕ) → at ≡ outcome_version seen o.offer.base r
      → max seen at ≤ length (commits_of pass'.words)
  ready_seen pass' k r is at version =
      let there = f.takes.seen in
      replied_seen N pass.words pass seen o.offer.base (let low = le in omega (arith, low, there)) there pass' k o.offer r is at version

  -- what it is answered: a text that is read as this statement, outside a transaction; its base has all commits of the words
  -- with which the statement began
  module _ (start : Seen) (began : Begins start pass o.offer.base) (pass' : Seen) (k : IsCall N start.words pass pass') where
    abbrev offer : Offer
    offer = o.offer

    abbrev s : SessionState
    s = state_of pass seen fresh None

    abbrev base : ℕ
    base = o.offer.base

    -- it has changes
    not_nothing : changes_in pass.words offer ≡ [] → ⊥
    not_nothing e = let bad = ap length (sym e ∙ f.list_is) in omega (arith, bad)

    -- nothing was committed
    module _ (mine : pass'.mine ≡ pass.mine) where
      proceeds_on : Proceeds N pass.session start.words pass'.words
      proceeds_on = uncommitted_proceeds N start pass pass' k mine

      same_state : state_of pass seen fresh None ≡ state_of pass' seen fresh None
      same_state = uncommitted_state N start pass pass' k mine seen fresh None

      module _ (x : List ℕ) (read : ReadsAs x st) where
        -- it asks for the action at its version
        asks_there : (n : ℕ) (W : List ℕ) → GoesOn N pass'.words W → (H : List PlainCommit) → StandsFor H W → Asks H (record s { seen = n }) x base [] (plain.Act f.action)
        asks_there n W goes H stands =
            let on = onward pass.words base f.takes.seen W (prefix_of_prefix pass.words pass'.words W k.longer goes.log) H stands in
            record { statement = st; reads = read; gives = ap (λ sch. resolved sch pass.session fresh st) (sym (on.keeps.schemas [])) ∙ f.resolves }

        -- the log is full
        full_answers : length pass'.words ≡ N → Answers N s (carried base (state_of pass' seen fresh None)) start.words pass'.words x (reply.Refused base refusal.Full)
        full_answers full = subst (λ (t : SessionState). Answers N s (carried base t) start.words pass'.words x (reply.Refused base refusal.Full)) same_state
            (answers_uncommitted N s (carried base s) start.words pass'.words x (reply.Refused base refusal.Full) proceeds_on refl refl (λ e. full) (λ e. began.all) (λ e. tt)
            (λ W goes H stands. (
              record {
                actions = [];
                statement = plain.Act f.action;
                sees = (le, (onward pass.words base f.takes.seen W (prefix_of_prefix pass.words pass'.words W k.longer goes.log) H stands).within, refl);
                asks = asks_there seen W goes H stands;
                full = let short = prefix_short pass'.words W goes.log in let most = goes.room in omega (arith, short, most, full);
                makes_words = action_makes_words (count H []) (widths_in (schema (take base H) []).tables) None f.action;
              },
              refl,
            )))

        -- a commit after its version has written what it read
        module _ (table : Read) (was now at : ℕ) (meets : MeetsLater (commits_of pass'.words) base offer.reads table was now at) where
          lt : base < at
          lt = later_than pass'.words base offer.reads table was now at meets

          -- whatever version up to its base was seen before
          conflicts : (n : ℕ) → n ≤ base → (W : List ℕ) → GoesOn N pass'.words W → (H : List PlainCommit) → StandsFor H W
              → IsConflict H W N (record s { seen = n }) x table was now at (carried at (with_transaction None s))
          conflicts n low W goes H stands =
              conflict_there pass'.words base offer.reads table was now at meets W goes.log H stands N (record s { seen = n }) (carried at (with_transaction None s)) x
              (inr (record { none_open = refl; action = f.action; asks = asks_there n W goes H stands; from_seen = low; reads_are = f.reads_are }))
              (λ i. record { session = pass.session; seen = same i; fresh = fresh; commits = pass.mine; transaction = None }) where
                same : max seen at ≡ max n at
                same = let a = le in let b = low in let c = lt in omega (arith, a, b, c)

          conflict_answers : Answers N s (carried at (state_of pass' seen fresh None)) start.words pass'.words x (reply.Refused at (refusal.Conflict table was now at))
          conflict_answers = subst (λ (t : SessionState). Answers N s (carried at t) start.words pass'.words x (reply.Refused at (refusal.Conflict table was now at))) same_state
              (answers_uncommitted N s (carried at (with_transaction None s)) start.words pass'.words x (reply.Refused at (refusal.Conflict table was now at)) proceeds_on refl refl (λ e. absurd (false≢true e))
              (λ e. let a = began.all in let b = lt in omega (arith, a, b))
              (λ e. conflicts (max seen (length (commits_of start.words))) (let a = began.all in let b = le in omega (arith, a, b)))
              (λ W goes H stands. (refl, conflicts seen le W goes H stands)))

    -- by what became of the offer
    outcome_answers : (x : List ℕ) → ReadsAs x st → (r : Result Outcome KeeperError) → IsOutcome N pass pass' offer r
        → Answers N s (carried (outcome_version seen base r) (state_of pass' seen (fresh_after fresh o.fresh r) None)) start.words pass'.words x (outcome_reply seen base r)
    outcome_answers x read (Ok (outcome.Committed m)) is =
        committed_answers N pass seen fresh (let low = le in let known = f.takes.seen in omega (arith, low, known)) o st f start pass' k m is x read
    outcome_answers x read (Ok outcome.Nothing) is = absurd (not_nothing is.1)
    outcome_answers x read (Ok (outcome.Conflict table was now at)) is = conflict_answers is.0.mine x read table was now at is.1
    outcome_answers x read (Err fault.Full) is = full_answers is.0.mine x read is.2
    outcome_answers x read (Err fault.Memory) is = wanting_answers N start pass pass' k is seen fresh None x

    -- from the statement's own state, as it began
    pub ready_executes : (r : Result Outcome KeeperError) → IsOutcome N pass pass' o.offer r → (at number : ℕ) (said : Reply) → at ≡ outcome_version seen o.offer.base r
        → number ≡ fresh_after fresh o.fresh r → said ≡ outcome_reply seen o.offer.base r
        → Executes N (state_of start seen fresh None) (carried at (state_of pass' seen number None)) start.words pass'.words st said
    ready_executes r is at number said version drawn same = λ x read.
        subst (λ t. Answers N t (carried at (state_of pass' seen number None)) start.words pass'.words x said) (state_same start pass seen fresh None None began.kept refl)
        (subst (λ n. Answers N s (carried n (state_of pass' seen number None)) start.words pass'.words x said) (sym version)
        (subst (λ n. Answers N s (carried (outcome_version seen base r) (state_of pass' seen n None)) start.words pass'.words x said) (sym drawn)
        (subst (λ q. Answers N s (carried (outcome_version seen base r) (state_of pass' seen (fresh_after fresh o.fresh r) None)) start.words pass'.words x q) (sym same) (outcome_answers x read r is))))
