-- A statement of an open transaction that was refused, answered, or kept until COMMIT.
use Rattle.std.{proofs.Common.{◌≡◌, ℕ, ◌+◌, ◌≤◌, List, [], ◌∷◌, ◌++◌, length, max, refl, sym, subst, ◌∙◌, arith}, specs.Arc.arc_value}
use Rattle.std.{specs.Prelude.{Some, None, Ok, sum_by}, proofs.lemmas.Bool.false≢true, proofs.lemmas.List.append-nil}
use Rattle.ct_word.{specs.Change.PlainCommit, specs.Reading.commits_of, specs.StandsFor.StandsFor}
use Rattle.ct_arena.specs.Seen.{Seen}
use Rattle.ct_query.{specs.declared.action.Read.Read, specs.Reads.with_reads, specs.Views.action_of}
use Rattle.ct_parse.specs.declared.tree.Statement.{Statement}
use Rattle.ct_statement.{specs.declared.proposing.Proposal.Proposal, specs.declared.replying.Answered.Answered, specs.declared.stepping.Step.Step}
use Rattle.ct_statement.{specs.Drawing.drawn, specs.Proposals.{listed, kept_after}, specs.Sight.{actions_before, history_of}}
use Rattle.ct_transcript.{specs.declared.reply.Reply.Reply, specs.declared.reply.Refusal.Refusal}
use Rattle.ct_transaction.{specs.declared.state.Open.Open, specs.Answers.{Answers, GoesOn}, specs.Executes.Executes, specs.Extending.having_read}
use Rattle.ct_transaction.{specs.LawfulReply.IsPending, specs.Prepared.{ForAnswer, IsPrepared, IsRefused}, specs.Replying.{reply_of, standing}, specs.Seeing.Sees}
use Rattle.ct_transaction.{specs.Sessions.{IsSession, state_of, transaction_of}, specs.State.{SessionState, carried, extended, extended_by}, proofs.Going.onward}
use Rattle.ct_transaction.{specs.Statements.ReadsAs, proofs.Actions.ForAction}
use Rattle.ct_transaction.proofs.Replies.{Proceeds, proceeds_same, answers_uncommitted, refused_answers, answered_answers, prepared_answer, resolves_on}
use Rattle.ct_query.specs.Plain as plain
use Rattle.ct_transcript.specs.declared.reply.Reply.TheVariants as reply
use Rattle.ct_transaction.specs.declared.preparing.Prepared.TheVariants as prepared

module _ (N : ℕ) (pass : Seen) (seen fresh : ℕ) (o : Open) (k : IsSession pass.words seen (Some o)) (room : length pass.words ≤ N) (st : Statement) where
  abbrev pub inside : SessionState
  inside = state_of pass seen fresh (Some o)

  its_own : Proceeds N pass.session pass.words pass.words
  its_own = proceeds_same N pass.session pass.words room

  seen_there : (H : List PlainCommit) → o.sight.version ≤ length H → Sees H inside o.sight.version (actions_before o.sight)
  seen_there H le = (refl, refl)

  not_outside : inside.transaction ≡ None → length (commits_of pass.words) ≤ o.sight.version
  not_outside e = cc

  -- a refusal
  pub refused_inside : (why : Refusal) → IsRefused (history_of pass.words o.sight) (actions_before o.sight) N pass.words pass.session fresh st why
      → Executes N inside (carried (standing seen o.sight.version why) inside) pass.words pass.words st (reply.Refused (standing seen o.sight.version why) why)
  refused_inside why r = λ x reads.
      refused_answers N inside x st reads pass.words o.sight.version (actions_before o.sight) k.open_is.sight.within seen_there pass.words its_own not_outside why r

  -- an answer to a query
  pub answered_inside : (given : Answered) (more : List Read) (o' : Open) (plus : ℕ) → plus ≡ length (actions_before o.sight) → transaction_of o' ≡ having_read more (transaction_of o)
      → IsPrepared pass.words (history_of pass.words o.sight) (actions_before o.sight) (listed pass.words o.changes) pass.session fresh o.sight st (prepared.Answer given) more
      → (said : Reply) → said ≡ reply_of o.sight.version plus given → Executes N inside (carried o.sight.version (state_of pass seen fresh (Some o'))) pass.words pass.words st said
  answered_inside given more o' plus ep e p said is = λ x reads.
      subst (λ r. Answers N inside (state_of pass (max seen o.sight.version) fresh (Some o')) pass.words pass.words x r) (sym is)
      (subst (λ n. Answers N inside (state_of pass (max seen o.sight.version) fresh (Some o')) pass.words pass.words x (reply_of o.sight.version n given)) (sym ep)
      (subst (λ next. Answers N inside next pass.words pass.words x (reply_of o.sight.version (length (actions_before o.sight)) given)) (sym next_is)
      (answered_answers N inside x st reads pass.words o.sight.version (actions_before o.sight) k.open_is.sight.within seen_there pass.words its_own not_outside
      asked.kind asked.columns asked.query given asked.resolves asked.answers))) where
        asked : ForAnswer pass.words (history_of pass.words o.sight) (actions_before o.sight) pass.session fresh st given more
        asked = prepared_answer pass.words (history_of pass.words o.sight) (actions_before o.sight) (listed pass.words o.changes) pass.session fresh o.sight st given more p

        transaction_is : transaction_of o' ≡ extended_by (plain.Asks asked.kind asked.columns asked.query) (transaction_of o)
        transaction_is = e ∙ (λ i. record { base = o.sight.version; actions = sym (append-nil (actions_before o.sight)) i; reads = with_reads o.reads (asked.reads_are i) })

        none_drawn : fresh ≡ fresh + 0
        none_drawn = omega arith

        next_is : state_of pass (max seen o.sight.version) fresh (Some o') ≡ carried o.sight.version (extended (plain.Asks asked.kind asked.columns asked.query) inside)
        next_is = λ i. record {
          session = pass.session;
          seen = max seen o.sight.version;
          fresh = none_drawn i;
          commits = pass.mine;
          transaction = Some (transaction_is i);
        }

  -- an action that is kept until COMMIT
  pub pending_inside : (p : Proposal) (step : Step) (more : List Read) (o' : Open) (plus : ℕ) → plus ≡ length (actions_before o.sight) + 1
      → transaction_of o' ≡ extended_by (plain.Act (action_of p.action)) (transaction_of o) → ForAction pass.words (history_of pass.words o.sight) (actions_before o.sight) (listed pass.words o.changes) pass.session fresh o.sight st p (Some step) more
      → Executes N inside (carried o.sight.version (state_of pass seen p.fresh (Some o'))) pass.words pass.words st (reply.Pending o.sight.version plus)
  pending_inside p step more o' plus ep e asked = λ x reads.
      answers_uncommitted N inside (state_of pass (max seen o.sight.version) p.fresh (Some o')) pass.words pass.words x (reply.Pending o.sight.version plus) its_own refl refl
      (λ e'. absurd (false≢true e')) (λ _. tt) (λ _. tt) (is_pending x reads) where
        draws : p.fresh ≡ fresh + sum_by drawn (action_of p.action ∷ [])
        draws = let one = asked.change.draws in omega (arith, one)

        is_pending : (x : List ℕ) → ReadsAs x st → (W : List ℕ) → GoesOn N pass.words W → (H : List PlainCommit) → StandsFor H W
            → IsPending H W N inside x o.sight.version plus (state_of pass (max seen o.sight.version) p.fresh (Some o'))
        is_pending x reads W g H stands =
            let on = onward pass.words o.sight.version k.open_is.sight.within W g.log H stands in
            let left = asked.change.steps.world in
            let kept = kept_after (arc_value o.sight.kept) step.kept in
            record {
              actions = actions_before o.sight;
              action = action_of p.action;
              is_open = refl;
              sees = (refl, refl);
              asks = resolves_on N inside x st reads pass.words o.sight.version (actions_before o.sight) k.open_is.sight.within seen_there W g H stands (Ok (plain.Act (action_of p.action))) asked.resolves;
              plus_is = ep;
              leaves = (kept, sym (on.keeps.admitted kept (actions_before o.sight ++ action_of p.action ∷ [])) ∙ left.admitted);
              next_is = λ i. record { session = pass.session; seen = max seen o.sight.version; fresh = draws i; commits = pass.mine; transaction = Some (e i) };
            }

-- what is executed in a transaction is executed so in one of the same base, actions and reads
pub executes_as : (N : ℕ) (pass : Seen) (seen fresh : ℕ) (o o' : Open) (next : SessionState) (words now : List ℕ) (st : Statement) (r : Reply) → transaction_of o' ≡ transaction_of o
    → Executes N (state_of pass seen fresh (Some o')) next words now st r → Executes N (state_of pass seen fresh (Some o)) next words now st r
executes_as N pass seen fresh o o' next words now st r e x =
    subst (λ (s : SessionState). Executes N s next words now st r) (λ i. record { session = pass.session; seen = seen; fresh = fresh; commits = pass.mine; transaction = Some (e i) }) x
