-- A closed test: a session that creates a table, and one that commits a transaction, are lawful, whichever texts are read
-- so.
use Rattle.std.{proofs.Common.{◌≡◌, ◌+◌, ◌-◌, ◌<◌, ℕ, List, [], ◌∷◌, refl, arith, inl, inr}, specs.Prelude.{pos, codes, take, Some, None}}
use Rattle.std.proofs.lemmas.List.Elements.{All-nil, All-cons}
use Rattle.ct_word.{specs.declared.values.Term.Term, specs.Condition.True, specs.Change.{PlainRow, PlainCommit, Create, Insert}}
use Rattle.ct_query.{specs.Agrees.{SameTruthAlone, Agrees}, specs.Plain.PlainAction}
use Rattle.ct_transaction.{specs.State.{Transaction, SessionState, beginning, carried, with_transaction, opened, extended}, specs.Seeing.{Asks, Orders, IsCommit}}
use Rattle.ct_transaction.specs.LawfulReply.{LawfulReply}
use Rattle.ct_statement.specs.Drawing.{drawn}
use Rattle.ct_serve.specs.Sessions.{AreLawful}
use Rattle.ct_word.specs.declared.values.Value.TheVariants as val
use Rattle.ct_word.specs.declared.values.Term.TheVariants as term
use Rattle.ct_query.specs.Plain as plain
use Rattle.ct_transcript.specs.declared.reply.Reply.TheVariants as reply

-- an action outside a transaction is committed
pub committed_alone : (H : List PlainCommit) (W : List ℕ) (N : ℕ) (s next : SessionState) (x : List ℕ) (m : ℕ) (a : PlainAction) (c : PlainCommit) → s.transaction ≡ None
    → Asks H s x (m - 1) [] (plain.Act a) → s.seen < m → IsCommit H m c → (c.session ≡ s.session) × (c.number ≡ s.commits) → Agrees (take (m - 1) H) (a ∷ []) c.changes
    → next ≡ carried m (record s { fresh = s.fresh + drawn a; commits = s.commits + 1 }) → LawfulReply H W N s x (reply.Committed m) next
committed_alone H W N s next x m a c none asks later stands own agrees is = inl (record {
  action = a;
  commit = c;
  none_open = none;
  asks = asks;
  later = later;
  stands = stands;
  session = own.0;
  number = own.1;
  agrees = agrees;
  next_is = is;
})

abbrev creation : PlainAction
creation = plain.Create (codes "t") (codes "a" ∷ [])

abbrev one : List Term
one = term.Value (val.Int (pos 1)) ∷ []

abbrev insertion : PlainAction
insertion = plain.InsertRows (codes "t") (one ∷ []) True

abbrev row : PlainRow
row = record { cells = one; condition = True }

abbrev created : PlainCommit
created = record { session = 1; number = 0; changes = Create (codes "t") (codes "a" ∷ []) ∷ [] }

abbrev inserted : PlainCommit
inserted = record { session = 2; number = 0; changes = Insert (codes "t") (row ∷ []) ∷ [] }

abbrev history : List PlainCommit
history = created ∷ inserted ∷ []

-- session 1 at its end, and session 2 after each of its replies
abbrev ended : SessionState
ended = record { session = 1; seen = 1; fresh = 0; commits = 1; transaction = None }

abbrev begun : SessionState
begun = carried 1 (with_transaction (Some (opened 1)) (beginning 2))

abbrev pending : SessionState
pending = carried 1 (extended (plain.Act insertion) begun)

abbrev committed : SessionState
committed = record { session = 2; seen = 2; fresh = 0; commits = 1; transaction = None }

abbrev transaction : Transaction
transaction = record { base = 1; actions = insertion ∷ []; reads = [] }

-- the row's condition is that of the action
abbrev Holds : PlainRow → Type 0
Holds r = SameTruthAlone r.condition True

module _ (W : List ℕ) (N : ℕ) (create begin insert commit : List ℕ) (creates : Asks history (beginning 1) create 0 [] (plain.Act creation)) (begins : Orders history (beginning 2) begin plain.Begin)
    (inserts : Asks history begun insert 1 [] (plain.Act insertion)) (commits : Orders history pending commit plain.Commit) where
  first : AreLawful history W N (beginning 1) (create ∷ []) (reply.Committed 1 ∷ []) ended
  first = (
    ended,
    committed_alone history W N (beginning 1) ended create 1 creation created refl creates (omega arith) (omega arith, refl) (refl, refl) ((refl, refl), tt) refl,
    refl,
  )

  second : AreLawful history W N (beginning 2) (begin ∷ insert ∷ commit ∷ []) (reply.Begun 1 ∷ reply.Pending 1 1 ∷ reply.Committed 2 ∷ []) committed
  second = (
    begun,
    record { none_open = refl; asks = begins; from_seen = omega arith; within = omega arith; next_is = refl },
    (
      pending,
      record {
        actions = [];
        action = insertion;
        is_open = refl;
        sees = (refl, refl);
        asks = inserts;
        plus_is = refl;
        leaves = ([], refl);
        next_is = refl;
      },
      (
        committed,
        inr (record {
          transaction = transaction;
          commit = inserted;
          is_open = refl;
          asks = commits;
          has_actions = omega arith;
          later = omega arith;
          unchanged = λ k d lt. absurd (omega (arith, lt));
          stands = (omega arith, refl);
          session = refl;
          number = refl;
          agrees = ((refl, refl, All-cons Holds row [] (λ v. refl) (All-nil Holds)), tt);
          next_is = refl;
        }),
        refl,
      ),
    ),
  )
