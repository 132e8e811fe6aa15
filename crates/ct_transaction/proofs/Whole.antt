-- What COMMIT of an open transaction is answered, by what became of its offer: each reply is lawful, however the words go on.
use Rattle.std.proofs.Common.{◌≡◌, ℕ, ◌+◌, ◌-◌, ◌<◌, ◌≤◌, List, [], ◌∷◌, length, take, max, refl, ap, sym, subst, inl, inr, ◌∙◌, arith}
use Rattle.std.{specs.Prelude.{Option, Some, None, Result, Ok, Err, All, IfSome}, proofs.lemmas.Bool.false≢true, proofs.lemmas.List.Elements.All-weaker}
use Rattle.ct_word.{specs.Change.{PlainChange, PlainCommit}, specs.Reading.{commits_of, change_list_at}, specs.StandsFor.{SameChanges, StandsFor}}
use Rattle.ct_word.proofs.Prefixes.{prefix_same}
use Rattle.ct_query.{specs.Agrees.Agrees, specs.Plain.PlainAction, specs.Reads.last, specs.declared.action.Read.Read, specs.Bounds.bound, specs.Patterns.count, specs.Schema.schema}
use Rattle.ct_arena.specs.Seen.{Seen}
use Rattle.ct_keeper.{specs.Offers.{IsConflict as MeetsLater, changes_in}, specs.Served.{IsLastCommit, IsOutcome}, specs.declared.catalogue.Outcome.Outcome}
use Rattle.ct_keeper.{specs.declared.error.KeeperError.KeeperError, specs.declared.catalogue.Offer.Offer}
use Rattle.ct_parse.specs.declared.tree.Statement.{Statement}
use Rattle.ct_transcript.specs.declared.reply.Reply.{Reply}
use Rattle.ct_statement.{specs.Making.widths_in, specs.Sight.{actions_before, history_of}}
use Rattle.ct_transaction.{specs.declared.state.Open.Open, specs.Answers.{GoesOn, Answers}, specs.LawfulRefusal.IsConflict, specs.LawfulReply.IsCommittedWhole}
use Rattle.ct_transaction.{specs.Outcomes.{open_after, outcome_reply, outcome_version}, specs.Seeing.Orders, specs.Statements.ReadsAs}
use Rattle.ct_transaction.{specs.Sessions.{IsBegunList, IsOpen, state_of, transaction_of}, specs.State.{SessionState, carried, with_transaction}}
use Rattle.ct_transaction.proofs.Called.{IsCall, comes, had_room, as_many_as, before, there, uncommitted_proceeds, uncommitted_state, wanting_answers}
use Rattle.ct_transaction.{proofs.Going.{front_taken, prefix_short, version_within}, proofs.Conflicting.conflict_there}
use Rattle.ct_transaction.{proofs.Offered.{IsBegun, none_agree, some_agree}, proofs.Replies.{Proceeds, answers_uncommitted}, proofs.Unchanged.agrees_still}
use Rattle.ct_query.specs.Plain as plain
use Rattle.ct_keeper.specs.declared.catalogue.Outcome.TheVariants as outcome
use Rattle.ct_keeper.specs.declared.error.KeeperError.TheVariants as fault
use Rattle.ct_parse.specs.declared.tree.Statement.TheVariants as tree
use Rattle.ct_transcript.specs.declared.reply.Reply.TheVariants as reply
use Rattle.ct_transcript.specs.declared.reply.Refusal.TheVariants as refusal

-- a session whose open transaction is ended by a text that is read as COMMIT
module _ (N : ℕ) (pass : Seen) (seen fresh : ℕ) (o : Open) (open' : IsOpen pass.words o) (st : Statement) (order : st ≡ tree.Commit) (x : List ℕ) (reads : ReadsAs x st) where
  abbrev s : SessionState
  s = state_of pass seen fresh (Some o)

  abbrev base : ℕ
  base = o.sight.version

  abbrev actions : List PlainAction
  actions = actions_before o.sight

  orders : (H : List PlainCommit) → Orders H s x plain.Commit
  orders H = record { statement = tree.Commit; reads = subst (ReadsAs x) order reads; gives = refl }

  -- there is nothing to commit
  nothing : (now : List ℕ) → Proceeds N pass.session pass.words now → (pass' : Seen) → pass'.session ≡ pass.session → pass'.mine ≡ pass.mine → actions ≡ []
      → Answers N s (carried base (state_of pass' seen fresh None)) pass.words now x (reply.Nothing base)
  nothing now p pass' session mine none =
      subst (λ (t : SessionState). Answers N s (carried base t) pass.words now x (reply.Nothing base))
      (λ i. record { session = sym session i; seen = seen; fresh = fresh; commits = sym mine i; transaction = None })
      (answers_uncommitted N s (carried base (with_transaction None s)) pass.words now x (reply.Nothing base) p refl refl (λ e. absurd (false≢true e)) (λ e. tt) (λ e. tt)
      (λ W g H stands. record { transaction = transaction_of o; is_open = refl; asks = orders H; no_actions = none; at_is = refl; next_is = refl }))

  -- the change list was not begun
  pub not_begun_answers : length pass.words ≤ N → o.changes ≡ None → Answers N s (carried base (state_of pass seen fresh None)) pass.words pass.words x (reply.Nothing base)
  not_begun_answers room e =
      nothing pass.words (record { longer = prefix_same pass.words; room = room; own = refl }) pass refl refl (subst (λ l. IsBegunList pass.words l actions) e open'.list)

  -- the change list is offered to the server
  module _ (changes : ℕ) (b : IsBegun pass.words o.sight changes o.reads) (pass' : Seen) (k : IsCall N pass.words pass pass') (offer : Offer)
      (base_is : offer.base ≡ o.sight.version) (reads_are : offer.reads ≡ o.reads) (changes_are : offer.changes ≡ changes) where
    abbrev xs : List PlainChange
    xs = change_list_at pass.words changes

    -- it has become a commit
    module _ (m : ℕ) (is : IsLastCommit pass pass' offer m) where
      abbrev g : List PlainCommit
      g = is.before

      within : base ≤ length g
      within = let le = b.sight_is.within in let short = prefix_short (commits_of pass.words) g is.longer in omega (arith, le, short)

      -- its base is one of the versions before
      base_first : history_of pass.words o.sight ≡ take base g
      base_first = sym (front_taken base (commits_of pass.words) g is.longer b.sight_is.within)

      unwritten : All (λ r. last g r ≤ base) o.reads
      unwritten = subst (λ rs. All (λ r. last g r ≤ base) rs) reads_are (subst (λ n. All (λ r. last g r ≤ n) offer.reads) base_is is.unchanged)

      agrees_before : Agrees g actions xs
      agrees_before = agrees_still g base within o.reads unwritten actions xs b.reads_are (subst (λ l. Agrees l actions xs) base_first b.agrees)

      has_some : 0 < length actions
      has_some = some_agree (history_of pass.words o.sight) actions xs b.agrees (λ e. is.has_changes (ap (change_list_at pass.words) changes_are ∙ e))

      module _ (W : List ℕ) (goes : GoesOn N pass'.words W) (H : List PlainCommit) (stands : StandsFor H W) where
        whole : IsCommittedWhole H W N s x m (carried m (with_transaction None (record s { commits = s.commits + 1 })))
        whole =
            let keeps = before N pass.words pass pass' offer m k is W goes H stands in
            let stood = there N pass.words pass pass' offer m k is W goes H stands in
            let number = is.number in
            let le = within in
            record {
              transaction = transaction_of o;
              commit = stood.commit;
              is_open = refl;
              asks = orders H;
              has_actions = has_some;
              later = omega (arith, number, le);
              unchanged = All-weaker (λ r. last g r ≤ base) (λ r. last (take (m - 1) H) r ≤ base) (λ r p. subst (λ n. n ≤ base) (keeps.last r) p) o.reads unwritten;
              stands = (omega (arith, number), stood.at);
              session = stood.session;
              number = stood.number;
              agrees = keeps.agreed actions xs stood.commit.changes (subst (λ n. SameChanges (change_list_at pass.words n) stood.commit.changes) changes_are stood.changes) agrees_before;
              next_is = refl;
            }

      pub whole_answers : Answers N s (carried m (state_of pass' seen fresh None)) pass.words pass'.words x (reply.Committed m)
      whole_answers = subst (λ (t : SessionState). Answers N s (carried m t) pass.words pass'.words x (reply.Committed m))
          (λ i. record { session = sym k.session i; seen = seen; fresh = fresh; commits = sym is.mine i; transaction = None })
          (record {
            lawful = λ W goes H stands. inr (whole W goes H stands);
            newest = λ e. absurd (some_open e);
            later = λ e. tt;
            longer = k.longer;
            room = k.room;
            same = refl;
            commits = comes N pass.words pass pass' offer m k is;
            full = λ e. absurd (false≢true e);
            not_full = λ e. had_room N pass.words pass pass' offer m k is;
          }) where
            some_open : Some (transaction_of o) ≡ None → ⊥
            some_open e = cc

    -- nothing was committed
    module _ (mine : pass'.mine ≡ pass.mine) where
      proceeds_on : Proceeds N pass.session pass.words pass'.words
      proceeds_on = uncommitted_proceeds N pass pass pass' k mine

      same_state : (t : Option Open) → state_of pass seen fresh t ≡ state_of pass' seen fresh t
      same_state = uncommitted_state N pass pass pass' k mine seen fresh

      -- there were no changes
      pub nothing_answers : xs ≡ [] → Answers N s (carried base (state_of pass' seen fresh None)) pass.words pass'.words x (reply.Nothing base)
      nothing_answers none = nothing pass'.words proceeds_on pass' k.session mine (none_agree (history_of pass.words o.sight) actions xs b.agrees none)

      module _ (some : xs ≡ [] → ⊥) where
        has_actions : 0 < length actions
        has_actions = some_agree (history_of pass.words o.sight) actions xs b.agrees some

        -- the log is full
        makes_words : (counts widths : List ℕ → ℕ) (own : List PlainAction) → 0 < length own → 1 ≤ bound counts widths (Some own) plain.Commit
        makes_words counts widths [] lt = absurd (omega (arith, lt))
        makes_words counts widths (a ∷ own) lt = omega arith

        pub full_answers : length pass'.words ≡ N → Answers N s (carried base (state_of pass' seen fresh (Some o))) pass.words pass'.words x (reply.Refused base refusal.Full)
        full_answers full = subst (λ (t : SessionState). Answers N s (carried base t) pass.words pass'.words x (reply.Refused base refusal.Full)) (same_state (Some o))
            (answers_uncommitted N s (carried base s) pass.words pass'.words x (reply.Refused base refusal.Full) proceeds_on refl refl (λ e. full) (λ e. absurd (some_open e)) (λ e. tt)
            (λ W goes H stands. (
              record {
                actions = actions;
                statement = plain.Commit;
                sees = (refl, refl);
                asks = record { statement = tree.Commit; reads = subst (ReadsAs x) order reads; gives = refl };
                full = let short = prefix_short pass'.words W goes.log in let le = goes.room in omega (arith, short, le, full);
                makes_words = makes_words (count H actions) (widths_in (schema (take base H) actions).tables) actions has_actions;
              },
              refl,
            ))) where
              some_open : Some (transaction_of o) ≡ None → ⊥
              some_open e = cc

        -- a later commit has written what was read
        module _ (table : Read) (was now at : ℕ) (found : MeetsLater (commits_of pass'.words) offer.base offer.reads table was now at) where
          meets : MeetsLater (commits_of pass'.words) base o.reads table was now at
          meets = subst (λ n. MeetsLater (commits_of pass'.words) n o.reads table was now at) base_is (subst (λ rs. MeetsLater (commits_of pass'.words) offer.base rs table was now at) reads_are found)

          module _ (W : List ℕ) (goes : GoesOn N pass'.words W) (H : List PlainCommit) (stands : StandsFor H W) where
            conflicts : IsConflict H W N s x table was now at (carried at (with_transaction None s))
            conflicts =
                conflict_there pass'.words base o.reads table was now at meets W goes.log H stands N s (carried at (with_transaction None s)) x
                (inl (record { transaction = transaction_of o; is_open = refl; asks = orders H; has_actions = has_actions; base_is = refl; reads_are = refl })) refl

          pub conflict_answers : Answers N s (carried at (state_of pass' seen fresh None)) pass.words pass'.words x (reply.Refused at (refusal.Conflict table was now at))
          conflict_answers = subst (λ (t : SessionState). Answers N s (carried at t) pass.words pass'.words x (reply.Refused at (refusal.Conflict table was now at))) (same_state None)
              (answers_uncommitted N s (carried at (with_transaction None s)) pass.words pass'.words x (reply.Refused at (refusal.Conflict table was now at)) proceeds_on refl refl (λ e. absurd (false≢true e))
              (λ e. absurd (some_open e)) (λ e. absurd (some_open e)) (λ W goes H stands. (refl, conflicts W goes H stands))) where
                some_open : Some (transaction_of o) ≡ None → ⊥
                some_open e = cc

    -- by what became of the offer
    to_none : changes_in pass.words offer ≡ [] → xs ≡ []
    to_none e = ap (change_list_at pass.words) (sym changes_are) ∙ e

    to_some : (changes_in pass.words offer ≡ [] → ⊥) → xs ≡ [] → ⊥
    to_some some e = some (ap (change_list_at pass.words) changes_are ∙ e)

    outcome_answers : (r : Result Outcome KeeperError) → IsOutcome N pass pass' offer r
        → Answers N s (carried (outcome_version seen base r) (state_of pass' seen fresh (open_after o r))) pass.words pass'.words x (outcome_reply seen base r)
    outcome_answers (Ok (outcome.Committed m)) f = whole_answers m f
    outcome_answers (Ok outcome.Nothing) f = nothing_answers f.0 (to_none f.1)
    outcome_answers (Ok (outcome.Conflict table was now at)) f = conflict_answers f.0.mine (to_some f.0.has_changes) table was now at f.1
    outcome_answers (Err fault.Full) f = full_answers f.0.mine (to_some f.0.has_changes) f.2
    outcome_answers (Err fault.Memory) f = wanting_answers N pass pass pass' k f seen fresh (Some o) x

    pub replied_answers : (r : Result Outcome KeeperError) → IsOutcome N pass pass' offer r → (at : ℕ) (said : Reply) (left : Option Open) → at ≡ outcome_version seen base r → said ≡ outcome_reply seen base r
        → left ≡ open_after o r → Answers N s (carried at (state_of pass' seen fresh left)) pass.words pass'.words x said
    replied_answers r f at said left version same still =
        subst (λ n. Answers N s (carried n (state_of pass' seen fresh left)) pass.words pass'.words x said) (sym version)
        (subst (λ l. Answers N s (carried (outcome_version seen base r) (state_of pass' seen fresh l)) pass.words pass'.words x said) (sym still)
        (subst (λ q. Answers N s (carried (outcome_version seen base r) (state_of pass' seen fresh (open_after o r))) pass.words pass'.words x q) (sym same) (outcome_answers r f)))

-- a transaction that stays after its offer is open over the words after it
pub left_open : (words : List ℕ) (o : Open) → IsOpen words o → (r : Result Outcome KeeperError) (left : Option Open) → left ≡ open_after o r → IfSome left (IsOpen words)
left_open words o k r left is = subst (λ l. IfSome l (IsOpen words)) (sym is) (by_outcome r) where
  by_outcome : (q : Result Outcome KeeperError) → IfSome (open_after o q) (IsOpen words)
  by_outcome (Ok out) = tt
  by_outcome (Err e) = k

-- the session has seen no version past the commits of its words
module _ (N : ℕ) (words : List ℕ) (pass : Seen) (seen base : ℕ) (seen_is : seen ≤ length (commits_of pass.words)) (base_is : base ≤ length (commits_of pass.words)) (pass' : Seen) (k : IsCall N words pass pass') where
  seen_there : seen ≤ length (commits_of pass'.words)
  seen_there = version_within pass.words pass'.words k.longer seen seen_is

  base_there : base ≤ length (commits_of pass'.words)
  base_there = version_within pass.words pass'.words k.longer base base_is

  module _ (offer : Offer) where
    pub committed_seen : (m : ℕ) → IsLastCommit pass pass' offer m → max seen m ≤ length (commits_of pass'.words)
    committed_seen m is = let all = as_many_as N words pass pass' offer m k is in let q = seen_there in omega (arith, all, q)

    outcome_seen : (r : Result Outcome KeeperError) → IsOutcome N pass pass' offer r → max seen (outcome_version seen base r) ≤ length (commits_of pass'.words)
    outcome_seen (Ok (outcome.Committed m)) f = committed_seen m f
    outcome_seen (Ok (outcome.Conflict table was now at)) f =
        let all = f.1.at_is in
        let q = seen_there in
        omega (arith, all, q)
    outcome_seen (Err fault.Memory) f = let q = seen_there in omega (arith, q)
    outcome_seen _ f = let p = base_there in let q = seen_there in omega (arith, p, q)

    pub replied_seen : (r : Result Outcome KeeperError) → IsOutcome N pass pass' offer r → (at : ℕ) → at ≡ outcome_version seen base r → max seen at ≤ length (commits_of pass'.words)
    replied_seen r f at version = subst (λ n. max seen n ≤ length (commits_of pass'.words)) (sym version) (outcome_seen r f)
