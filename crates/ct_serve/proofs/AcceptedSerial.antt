-- A closed test: a transaction that asks, and is committed after a commit of another session came between, is lawful; and
-- that its replies are serial says that its answer is right after that commit too.
use Rattle.std.{proofs.Common.{◌≡◌, ◌+◌, ◌-◌, ◌<◌, ◌≤◌, ℕ, List, [], ◌∷◌, refl, arith, inr}, specs.Prelude.{pos, codes, take, map, All, Some, None}, specs.List.IsDistinct}
use Rattle.std.proofs.lemmas.List.Elements.{All-nil, All-cons}
use Rattle.ct_word.{specs.declared.values.Term.Term, specs.Value.same_cells, specs.Condition.True, specs.Change.{PlainRow, PlainCommit, Create, Insert}, specs.Sublist.IsSublist}
use Rattle.ct_query.{specs.Agrees.SameTruthAlone, specs.Patterns.pattern, specs.Plain.{PlainQuery, PlainAction, PlainStatement}, specs.Reads.last as last_of, specs.declared.action.Read.Read}
use Rattle.ct_rewrite.{specs.declared.answer.Node.Node}
use Rattle.ct_transcript.{specs.Means.{IsAnswer, Means}, specs.declared.reply.Answer.Answer, specs.declared.reply.Reply.Reply}
use Rattle.ct_transaction.{specs.State.{Transaction, SessionState, beginning, carried, with_transaction, opened, extended}, specs.Seeing.{Asks, Orders}}
use Rattle.ct_serve.{specs.Serial.AreSerial, specs.Sessions.AreLawful, proofs.Serial.serial}
use Rattle.ct_word.specs.Sublist as sublist
use Rattle.ct_word.specs.declared.values.Value.TheVariants as val
use Rattle.ct_word.specs.declared.values.Term.TheVariants as term
use Rattle.ct_query.specs.Plain as plain
use Rattle.ct_query.specs.declared.action.Read.TheVariants as read
use Rattle.ct_query.specs.declared.action.Ask.TheVariants as ask
use Rattle.ct_rewrite.specs.declared.answer.Node.TheVariants as node
use Rattle.ct_transcript.specs.declared.reply.Reply.TheVariants as reply

abbrev cells : ℕ → List Term
cells n = term.Value (val.Int (pos n)) ∷ []

abbrev row : ℕ → PlainRow
row n = record { cells = cells n; condition = True }

-- `create table t (a)`, `insert into t values (1)` and `create table u (a)` of session 1, and `insert into t values (2)` of
-- session 2
abbrev inserted : PlainCommit
inserted = record { session = 2; number = 0; changes = Insert (codes "t") (row 2 ∷ []) ∷ [] }

abbrev history : List PlainCommit
history =
    record { session = 1; number = 0; changes = Create (codes "t") (codes "a" ∷ []) ∷ [] } ∷ record { session = 1; number = 1; changes = Insert (codes "t") (row 1 ∷ []) ∷ [] }
    ∷ record { session = 1; number = 2; changes = Create (codes "u") (codes "a" ∷ []) ∷ [] } ∷ inserted ∷ []

abbrev query : PlainQuery
query = plain.Project (0 ∷ []) (plain.Table (codes "t"))

abbrev asking : PlainStatement
asking = plain.Asks ask.Rows (codes "a" ∷ []) query

abbrev insertion : PlainAction
insertion = plain.InsertRows (codes "t") (cells 2 ∷ []) True

-- the row (1)
abbrev answer : Answer
answer = record { columns = codes "a" ∷ []; nodes = node.True ∷ []; rows = record { cells = cells 1; cond = 0 } ∷ []; global = 0 }

-- the session after each of its replies; the table u came before its commit
abbrev begun : SessionState
begun = carried 2 (with_transaction (Some (opened 2)) (beginning 2))

abbrev asked : SessionState
asked = carried 2 (extended asking begun)

abbrev pending : SessionState
pending = carried 2 (extended (plain.Act insertion) asked)

abbrev committed : SessionState
committed = record { session = 2; seen = 4; fresh = 0; commits = 1; transaction = None }

abbrev replies : List Reply
replies = reply.Begun 2 ∷ reply.Rows 2 0 answer ∷ reply.Pending 2 1 ∷ reply.Committed 4 ∷ []

abbrev IsRead : Read → Type 0
IsRead r = last_of (take 3 history) r ≤ 2

-- the row's condition is that of the action
abbrev Holds : PlainRow → Type 0
Holds r = SameTruthAlone r.condition True

formed : IsAnswer answer
unfolding IsDistinct
formed = record { ordered = refl; global_placed = refl; rows_placed = refl; distinct = (tt, tt) }

module _ (W : List ℕ) (N : ℕ) (begin select insert commit : List ℕ) (begins : Orders history (beginning 2) begin plain.Begin) (selects : Asks history begun select 2 [] asking)
    (inserts : Asks history asked insert 2 [] (plain.Act insertion)) (commits : Orders history pending commit plain.Commit) where
  abbrev script : List (List ℕ)
  script = begin ∷ select ∷ insert ∷ commit ∷ []

  lawful : AreLawful history W N (beginning 2) script replies committed
  lawful = (
    begun,
    record { none_open = refl; asks = begins; from_seen = omega arith; within = omega arith; next_is = refl },
    (
      asked,
      record {
        actions = [];
        query = query;
        sees = (refl, refl);
        asks = selects;
        plus_is = refl;
        formed = formed;
        means = λ v. record { worlds = refl; tuples = λ tuple. refl };
        in_pattern = sublist.taken sublist.ended;
        next_is = refl;
      },
      (
        pending,
        record {
          actions = [];
          action = insertion;
          is_open = refl;
          sees = (refl, refl);
          asks = inserts;
          plus_is = refl;
          leaves = ([], refl);
          next_is = refl;
        },
        (
          committed,
          inr (record {
            transaction = record { base = 2; actions = insertion ∷ []; reads = read.Table (codes "t") ∷ read.Worlds ∷ [] };
            commit = inserted;
            is_open = refl;
            asks = commits;
            has_actions = omega arith;
            later = omega arith;
            unchanged = All-cons IsRead (read.Table (codes "t")) (read.Worlds ∷ []) (omega arith) (All-cons IsRead read.Worlds [] (omega arith) (All-nil IsRead));
            stands = (omega arith, refl);
            session = refl;
            number = refl;
            agrees = ((refl, refl, All-cons Holds (row 2) [] (λ v. refl) (All-nil Holds)), tt);
            next_is = refl;
          }),
          refl,
        ),
      ),
    ),
  )

  -- so the replies are serial
  are_serial : AreSerial history W N (beginning 2) script replies committed lawful
  are_serial = serial history W N (beginning 2) committed script replies tt lawful

  -- and that says of the answer of version 2 that it is right after three commits
  right_later : Means answer query (take 3 history) [] × IsSublist (map (λ r. r.cells) answer.rows) (pattern (take 3 history) [] query)
  unfolding lawful
  right_later = are_serial.1.0 refl
