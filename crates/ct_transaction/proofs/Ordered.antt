-- BEGIN and ROLLBACK, and orders in the wrong place; want of memory for any statement.
use Rattle.std.{proofs.Common.{◌≡◌, ◌⊎◌, ℕ, ◌≤◌, List, [], ◌∷◌, length, take, max, refl, ap, sym, subst, inl, inr, ◌∙◌, arith}, proofs.lemmas.Bool.false≢true}
use Rattle.std.specs.Prelude.{Option, Some, None, Ok, IsNone, IsSome, option_map}
use Rattle.ct_word.{specs.Change.PlainCommit, specs.Reading.commits_of, specs.StandsFor.StandsFor, proofs.Prefixes.commits_prefix}
use Rattle.ct_arena.{specs.Seen.{Seen, tally_of}, specs.declared.tally.Tally.Tally}
use Rattle.ct_condition.specs.Writes.{kept_of}
use Rattle.ct_query.{specs.Plain.PlainStatement, specs.Schema.schema, specs.declared.schema.Schema.Schema}
use Rattle.ct_parse.specs.declared.tree.Statement.{Statement}
use Rattle.ct_resolve.specs.Statements.{resolved}
use Rattle.ct_statement.specs.Sight.{actions_before}
use Rattle.ct_transcript.{specs.declared.reply.Reply.Reply, specs.declared.reply.Refusal.Refusal}
use Rattle.ct_transaction.{specs.declared.state.Open.Open, specs.Answers.{Answers, GoesOn}, specs.Executes.Executes, specs.LawfulReply.IsBegun}
use Rattle.ct_transaction.{specs.Orders.IsMisplaced, specs.Seeing.Orders, specs.Sessions.{state_of, transaction_of}, specs.Statements.ReadsAs}
use Rattle.ct_transaction.{specs.State.{SessionState, carried, with_transaction, opened}, proofs.Going.{prefix_short, onward}}
use Rattle.ct_transaction.proofs.Replies.{Proceeds, answers_uncommitted, answers_later, memory_answers, carried_same}
use Rattle.ct_query.specs.Plain as plain
use Rattle.ct_parse.specs.declared.tree.Statement.TheVariants as tree
use Rattle.ct_transcript.specs.declared.reply.Reply.TheVariants as reply
use Rattle.ct_transcript.specs.declared.reply.Refusal.TheVariants as refusal

-- none is open
pub none_open : (o : Option Open) → IsNone o → o ≡ None
none_open None n = refl
none_open (Some o) n = absurd (false≢true (sym n))

-- the state of a session of the same number, commits and transaction
pub state_same : (pass pass' : Seen) (seen fresh : ℕ) (open' open'' : Option Open) → kept_of pass' ≡ kept_of pass → option_map transaction_of open'' ≡ option_map transaction_of open'
    → state_of pass' seen fresh open'' ≡ state_of pass seen fresh open'
state_same pass pass' seen fresh open' open'' kept same =
    let session : pass'.session ≡ pass.session = cc in
    let mine : pass'.mine ≡ pass.mine = cc in
    λ i. record { session = session i; seen = seen; fresh = fresh; commits = mine i; transaction = same i }

-- a pass of the same tally has the same session and as many commits
pub tally_kept : (p q : Seen) → tally_of p ≡ tally_of q → kept_of p ≡ kept_of q
tally_kept p q e = ap (λ (t : Tally). t.session ∷ t.mine ∷ []) e

-- where the words of a pass went on before the statement of a transaction was answered, it is answered so from the first ones too
pub executes_later : (N : ℕ) (pass mid : Seen) (seen fresh : ℕ) (o : Open) (next : SessionState) (now : List ℕ) (st : Statement) (r : Reply) → Proceeds N pass.session pass.words mid.words
    → kept_of mid ≡ kept_of pass → Executes N (state_of mid seen fresh (Some o)) next mid.words now st r → Executes N (state_of pass seen fresh (Some o)) next pass.words now st r
executes_later N pass mid seen fresh o next now st r p kept e = λ x reads.
    answers_later N (state_of pass seen fresh (Some o)) next pass.words mid.words now x r is_open p
    (subst (λ s. Answers N s next mid.words now x r) (state_same pass mid seen fresh (Some o) (Some o) kept refl) (e x reads)) where
      is_open : Some (transaction_of o) ≡ None → ⊥
      is_open e' = cc

-- want of memory leaves the state, and carries what was seen
pub memory_carried : (N : ℕ) (pass pass' : Seen) (seen fresh : ℕ) (open' open'' : Option Open) (st : Statement) → Proceeds N pass.session pass.words pass'.words → kept_of pass' ≡ kept_of pass
    → option_map transaction_of open'' ≡ option_map transaction_of open'
    → Executes N (state_of pass seen fresh open') (carried seen (state_of pass' seen fresh open'')) pass.words pass'.words st (reply.Refused seen refusal.Memory)
memory_carried N pass pass' seen fresh open' open'' st p kept same = λ x reads.
    subst (λ next. Answers N (state_of pass seen fresh open') next pass.words pass'.words x (reply.Refused seen refusal.Memory))
    (sym (carried_same (state_of pass' seen fresh open'') ∙ state_same pass pass' seen fresh open' open'' kept same)) (memory_answers N (state_of pass seen fresh open') pass.words pass'.words x p)

-- a text that is read as an order asks for it
pub order_asks : (H : List PlainCommit) (s : SessionState) (x : List ℕ) (st : Statement) (order : PlainStatement) → ReadsAs x st
    → ((sch : Schema) (session fresh : ℕ) → resolved sch session fresh st ≡ Ok order) → Orders H s x order
order_asks H s x st order reads resolves = record { statement = st; reads = reads; gives = resolves (schema (take 0 H) []) s.session s.fresh }

-- BEGIN outside a transaction
pub begun_executes : (N : ℕ) (pass pass' : Seen) (seen fresh at : ℕ) (open' : Option Open) (o : Open) (st : Statement) → IsNone open' → st ≡ tree.Begin
    → Proceeds N pass.session pass.words pass'.words → kept_of pass' ≡ kept_of pass → seen ≤ length (commits_of pass.words) → at ≡ length (commits_of pass'.words)
    → o.sight.version ≡ at → actions_before o.sight ≡ [] → o.reads ≡ []
    → Executes N (state_of pass seen fresh open') (carried at (state_of pass' seen fresh (Some o))) pass.words pass'.words st (reply.Begun at)
begun_executes N pass pass' seen fresh at (Some other) o st none order p kept known newest version actions reads = absurd (false≢true (sym none))
begun_executes N pass pass' seen fresh at None o st none order p kept known newest version actions no_reads = λ x reads.
    answers_uncommitted N (state_of pass seen fresh None) (carried at (state_of pass' seen fresh (Some o))) pass.words pass'.words x (reply.Begun at) p session refl (λ e. absurd (false≢true e)) (λ _. before) (λ _. tt)
    (λ W g H stands. is_begun x reads W g H stands) where
      session : pass'.session ≡ pass.session
      session = cc

      mine : pass'.mine ≡ pass.mine
      mine = cc

      before : length (commits_of pass.words) ≤ at
      before = let short = prefix_short (commits_of pass.words) (commits_of pass'.words) (commits_prefix pass.words pass'.words p.longer) in omega (arith, short, newest)

      next_is : carried at (state_of pass' seen fresh (Some o)) ≡ carried at (with_transaction (Some (opened at)) (state_of pass seen fresh None))
      next_is = λ i. record {
        session = session i;
        seen = max seen at;
        fresh = fresh;
        commits = mine i;
        transaction = Some (record { base = version i; actions = actions i; reads = no_reads i });
      }

      is_begun : (x : List ℕ) → ReadsAs x st → (W : List ℕ) → GoesOn N pass'.words W → (H : List PlainCommit) → StandsFor H W
          → IsBegun H W N (state_of pass seen fresh None) x at (carried at (state_of pass' seen fresh (Some o)))
      is_begun x reads W g H stands = record {
        none_open = refl;
        asks = order_asks H (state_of pass seen fresh None) x st plain.Begin reads (λ sch a b. ap (resolved sch a b) order);
        from_seen = omega (arith, known, before);
        within = (onward pass'.words at (omega (arith, newest)) W g.log H stands).within;
        next_is = next_is;
      }

-- ROLLBACK in a transaction
pub rolled_back_executes : (N : ℕ) (pass : Seen) (seen fresh : ℕ) (open' : Option Open) (st : Statement) → IsSome open' → st ≡ tree.Rollback → Proceeds N pass.session pass.words pass.words
    → Executes N (state_of pass seen fresh open') (state_of pass seen fresh None) pass.words pass.words st reply.RolledBack
rolled_back_executes N pass seen fresh None st some order p = absurd (false≢true some)
rolled_back_executes N pass seen fresh (Some o) st some order p = λ x reads.
    answers_uncommitted N (state_of pass seen fresh (Some o)) (state_of pass seen fresh None) pass.words pass.words x reply.RolledBack p refl refl (λ e. absurd (false≢true e)) (λ _. tt) (λ _. tt)
    (λ W g H stands. record {
      is_open = refl;
      asks = order_asks H (state_of pass seen fresh (Some o)) x st plain.Rollback reads (λ sch a b. ap (resolved sch a b) order);
      next_is = refl;
    })

-- an order in the wrong place
module _ (N : ℕ) (pass : Seen) (seen fresh : ℕ) (p : Proceeds N pass.session pass.words pass.words) where
  no_transaction : (st : Statement) (order : PlainStatement) → (order ≡ plain.Commit) ⊎ (order ≡ plain.Rollback) → ((sch : Schema) (session fresh' : ℕ) → resolved sch session fresh' st ≡ Ok order)
      → Executes N (state_of pass seen fresh None) (state_of pass seen fresh None) pass.words pass.words st (reply.Refused seen refusal.NoTransaction)
  no_transaction st order ends resolves = λ x reads.
      answers_uncommitted N (state_of pass seen fresh None) (state_of pass seen fresh None) pass.words pass.words x (reply.Refused seen refusal.NoTransaction) p refl refl (λ e. absurd (false≢true e)) (λ _. tt) (λ _. tt)
      (λ W g H stands. (
        record {
          none_open = refl;
          statement = order;
          ends = ends;
          asks = order_asks H (state_of pass seen fresh None) x st order reads resolves;
          at_is = refl;
        },
        sym (carried_same (state_of pass seen fresh None)),
      ))

  pub misplaced_executes : (open' : Option Open) (st : Statement) (why : Refusal) → IsMisplaced open' st why
      → Executes N (state_of pass seen fresh open') (state_of pass seen fresh open') pass.words pass.words st (reply.Refused seen why)
  misplaced_executes (Some o) tree.Begin refusal.InTransaction m = λ x reads.
      answers_uncommitted N (state_of pass seen fresh (Some o)) (state_of pass seen fresh (Some o)) pass.words pass.words x (reply.Refused seen refusal.InTransaction) p refl refl
      (λ e. absurd (false≢true e)) (λ _. tt) (λ _. tt)
      (λ W g H stands. (
        record { is_open = refl; asks = order_asks H (state_of pass seen fresh (Some o)) x tree.Begin plain.Begin reads (λ sch a b. refl); at_is = refl },
        sym (carried_same (state_of pass seen fresh (Some o))),
      ))
  misplaced_executes None tree.Commit refusal.NoTransaction m = no_transaction tree.Commit plain.Commit (inl refl) (λ sch a b. refl)
  misplaced_executes None tree.Rollback refusal.NoTransaction m = no_transaction tree.Rollback plain.Rollback (inr refl) (λ sch a b. refl)
  misplaced_executes _ _ _ m = absurd m
