-- An action outside a transaction that has become a commit: what it is answered.
use Rattle.std.{proofs.Common.{◌≡◌, ℕ, ◌+◌, ◌≤◌, List, [], ◌∷◌, length, take, refl, ap, sym, subst, inl, ◌∙◌, arith}, specs.Prelude.{None, Ok, All}}
use Rattle.std.{specs.List.Contains, proofs.lemmas.Bool.false≢true, proofs.lemmas.List.append-nil, proofs.lemmas.List.Elements.All-contains_itself}
use Rattle.ct_word.{specs.Change.PlainCommit, specs.Reading.commits_of, specs.StandsFor.{SameChanges, StandsFor}}
use Rattle.ct_word.proofs.Prefixes.{prefix_of_prefix, commits_prefix}
use Rattle.ct_query.{specs.Agrees.{AgreesWith, Agrees}, specs.Fits.FitAfter, specs.Frame.{creates, reads_of_actions}, specs.Reads.action_reads}
use Rattle.ct_query.specs.Schema.{schema}
use Rattle.ct_table.specs.Snapshot.{commits_to}
use Rattle.ct_arena.specs.Seen.{Seen}
use Rattle.ct_keeper.{specs.Served.IsLastCommit, specs.declared.catalogue.Offer.Offer}
use Rattle.ct_parse.specs.declared.tree.Statement.{Statement}
use Rattle.ct_resolve.specs.Statements.{resolved}
use Rattle.ct_statement.specs.Drawing.{drawn}
use Rattle.ct_transaction.{specs.Answers.{GoesOn, Answers}, specs.LawfulReply.IsCommittedAlone, specs.Sessions.state_of, specs.State.{SessionState, carried}}
use Rattle.ct_transaction.{specs.Statements.ReadsAs, proofs.Called.{IsCall, comes, one_before, had_room, before, there}}
use Rattle.ct_transaction.{proofs.Going.{front_taken, prefix_short}, proofs.Ordered.state_same, proofs.Unchanged.{agrees_still, resolves_still}}
use Rattle.ct_session.{specs.declared.offering.Offering.Offering, specs.Offering.IsReadyToOffer}
use Rattle.ct_condition.specs.Writes.{kept_of}
use Rattle.ct_query.specs.Plain as plain
use Rattle.ct_transcript.specs.declared.reply.Reply.TheVariants as reply

-- what it is answered: a text that is read as this statement, outside a transaction. Its base may be any version that the
-- session has seen, since the commit comes after all that it has seen
module _ (N : ℕ) (pass : Seen) (seen fresh : ℕ) (seen_is : seen ≤ length (commits_of pass.words)) (o : Offering) (st : Statement) (f : IsReadyToOffer pass fresh o st) (start pass' : Seen)
    (k : IsCall N start.words pass pass') where
  abbrev offer : Offer
  offer = o.offer

  abbrev s : SessionState
  s = state_of pass seen fresh None

  -- what it reads and creates is among its reads
  module _ (m : ℕ) (is : IsLastCommit pass pass' o.offer m) where
    abbrev g : List PlainCommit
    g = is.before

    all_before : length (commits_of pass.words) ≤ length g
    all_before = prefix_short (commits_of pass.words) g is.longer

    within_g : offer.base ≤ length g
    within_g = let le = f.takes.seen in let short = all_before in omega (arith, le, short)

    base_first : commits_to pass.words offer.base ≡ take offer.base g
    base_first = sym (front_taken offer.base (commits_of pass.words) g is.longer f.takes.seen)

    own_reads : All (Contains offer.reads) (reads_of_actions (f.action ∷ []))
    own_reads = subst (All (Contains offer.reads)) (sym (append-nil (action_reads f.action))) (subst (All (Contains offer.reads)) f.reads_are (All-contains_itself offer.reads))

    agrees_there : Agrees g (f.action ∷ []) (f.change ∷ [])
    agrees_there =
        agrees_still g offer.base within_g offer.reads is.unchanged (f.action ∷ []) (f.change ∷ []) own_reads
        (subst (λ l. Agrees l (f.action ∷ []) (f.change ∷ [])) base_first (f.agrees, tt))

    resolves_there : resolved (schema g []) pass.session fresh st ≡ Ok (plain.Act f.action)
    resolves_there =
        resolves_still g offer.base within_g offer.reads is.unchanged pass.session fresh st f.action f.change
        (subst (λ l. All (Contains offer.reads) (creates l)) f.list_is f.takes.creations)
        (subst (λ l. AgreesWith l [] f.action f.change) base_first f.agrees)
        (subst (λ l. FitAfter l (f.change ∷ [])) base_first (subst (λ l. FitAfter (commits_to pass.words offer.base) l) f.list_is f.takes.fits))
        (subst (λ l. resolved (schema l []) pass.session fresh st ≡ Ok (plain.Act f.action)) base_first f.resolves)

    abbrev after : SessionState
    after = carried m (record s { fresh = s.fresh + drawn f.action; commits = s.commits + 1 })

    module _ (x : List ℕ) (read : ReadsAs x st) where
      module _ (W : List ℕ) (goes : GoesOn N pass'.words W) (H : List PlainCommit) (stands : StandsFor H W) where
        committed_alone : IsCommittedAlone H W N s x m after
        committed_alone =
            let keeps = before N start.words pass pass' offer m k is W goes H stands in
            let stood = there N start.words pass pass' offer m k is W goes H stands in
            let number = is.number in
            let all = all_before in
            let known = seen_is in
            record {
              action = f.action;
              commit = stood.commit;
              none_open = refl;
              asks = record { statement = st; reads = read; gives = ap (λ sch. resolved sch pass.session fresh st) (sym (keeps.schemas [])) ∙ resolves_there };
              later = omega (arith, number, all, known);
              stands = (omega (arith, number), stood.at);
              session = stood.session;
              number = stood.number;
              agrees = keeps.agreed (f.action ∷ []) (f.change ∷ []) stood.commit.changes (subst (λ l. SameChanges l stood.commit.changes) f.list_is stood.changes) agrees_there;
              next_is = refl;
            }

      pub committed_answers : Answers N s (carried m (state_of pass' seen o.fresh None)) start.words pass'.words x (reply.Committed m)
      committed_answers = subst (λ (t : SessionState). Answers N s (carried m t) start.words pass'.words x (reply.Committed m))
          (λ i. record { session = sym k.session i; seen = seen; fresh = sym f.draws i; commits = sym is.mine i; transaction = None })
          (record {
            lawful = λ W goes H stands. inl (committed_alone W goes H stands);
            newest = λ e.
                let one = one_before N start.words pass pass' offer m k is in
                let all = all_before in
                let first = prefix_short (commits_of start.words) (commits_of pass.words) (commits_prefix start.words pass.words k.first) in
                omega (arith, one, all, first);
            later = λ e. tt;
            longer = prefix_of_prefix start.words pass.words pass'.words k.first k.longer;
            room = k.room;
            same = refl;
            commits = comes N start.words pass pass' offer m k is;
            full = λ e. absurd (false≢true e);
            not_full = λ e. had_room N start.words pass pass' offer m k is;
          })

      -- and so it is from the state in which the statement began
      pub committed_from : kept_of pass ≡ kept_of start → Answers N (state_of start seen fresh None) (carried m (state_of pass' seen o.fresh None)) start.words pass'.words x (reply.Committed m)
      committed_from same = subst (λ t. Answers N t (carried m (state_of pass' seen o.fresh None)) start.words pass'.words x (reply.Committed m)) (state_same start pass seen fresh None None same refl) committed_answers
