-- A closed test over the small log: a transcript is lawful of a session that commits three times, and of one whose
-- transaction meets a conflict, whose assertion is refuted, and which is answered rows, possible rows and certain rows,
-- whichever texts are read so.
use Rattle.std.{proofs.Common.{◌≡◌, ◌≤◌, ℕ, zero, suc, List, [], ◌∷◌, refl, sym, ap, subst, ◌∙◌, arith, inl}, specs.List.IsDistinct}
use Rattle.std.specs.Prelude.{Bool, true, false, not, ◌&&◌, ◌||◌, pos, codes, take, Option, Some, None, is_some, option_and_then, IfSome, IsTrue, All, if◌then◌else◌}
use Rattle.std.proofs.lemmas.List.Elements.{All-nil, All-cons}
use Rattle.ct_word.{specs.Value.{World, same_value, same_cells, same_tuple, value_of_null}, specs.Condition.{True, holds_at}, specs.Reading.condition_at}
use Rattle.ct_word.{specs.Change.{PlainRow, PlainCommit}, proofs.Alike.value_decides}
use Rattle.ct_derivation.proofs.Sound.{root_refuted}
use Rattle.ct_query.{specs.declared.action.Ask.Ask, specs.Plain.{PlainQuery, PlainAction, PlainStatement}, specs.Agrees.SameTruthAlone, specs.Rows.rows}
use Rattle.ct_query.{specs.Database.{Database, SameSet, has_tuple}, specs.Reads.{last as last_of}, specs.Worlds.admits}
use Rattle.ct_lex.specs.Texts.{texts}
use Rattle.ct_rewrite.{specs.declared.answer.Node.Node, specs.declared.history.Change.Change, specs.declared.history.Commit.Commit, specs.Tidy.IsTidy}
use Rattle.ct_rewrite.{specs.History.IsCommitFormed, specs.declared.answer.PossibleRow.PossibleRow, specs.declared.answer.CertainRow.CertainRow}
use Rattle.ct_transcript.{specs.Means.{Means, shown}, specs.Possible.{ShowsRow, PossibleRight}, specs.Certain.{is_absent, RefutesAbsence, CertainRight}}
use Rattle.ct_transcript.{specs.declared.reply.Answer.Answer, specs.declared.reply.Reply.Reply, specs.declared.transcript.Transcript.Transcript}
use Rattle.ct_transaction.{specs.State.{SessionState, beginning, carried, with_transaction, opened, extended}, specs.Seeing.{Asks, Orders}}
use Rattle.ct_transaction.specs.LawfulReply.{LawfulReply}
use Rattle.ct_serve.{specs.Sessions.AreLawful, specs.Lawful.Lawful, proofs.Accepted.committed_alone}
use Rattle.ct_serve.proofs.SmallLog.{x, number, x_is, created, filled, asserted, history, words, front, many, formed, stands, two_numbers, number_and_not, not_two, not_two_accepted, not_absent, not_absent_accepted}
use Rattle.ct_word.specs.declared.values.Value.TheVariants as val
use Rattle.ct_word.specs.declared.values.Term.TheVariants as term
use Rattle.ct_word.specs.Sublist as sublist
use Rattle.ct_query.specs.declared.action.Ask.TheVariants as ask
use Rattle.ct_query.specs.declared.action.Read.TheVariants as read
use Rattle.ct_query.specs.Plain as plain
use Rattle.ct_rewrite.specs.declared.history.Change.TheVariants as change
use Rattle.ct_rewrite.specs.declared.answer.Node.TheVariants as node
use Rattle.ct_transcript.specs.declared.reply.Reply.TheVariants as reply
use Rattle.ct_transcript.specs.declared.reply.Refusal.TheVariants as refusal

-- `select a from t`
abbrev all_of_t : PlainQuery
all_of_t = plain.Project (0 ∷ []) (plain.Select True (plain.Table (codes "t")))

abbrev of_t : Ask → PlainStatement
of_t k = plain.Asks k (codes "a" ∷ []) all_of_t

abbrev asserts : ℕ → PlainAction
asserts n = plain.Assert (x_is n)

-- (?x), worlds where ?x = 1
abbrev answer : Answer
answer = record {
  columns = codes "a" ∷ [];
  nodes = node.True ∷ node.Eq (term.Null x) (number 1) ∷ [];
  rows = record { cells = term.Null x ∷ []; cond = 0 } ∷ [];
  global = 1;
}

-- (?x) in ?x = 1
abbrev possible_row : PossibleRow
possible_row = record { cells = term.Null x ∷ []; world = (x, val.Int (pos 1)) ∷ [] }

-- (1), absence refuted
abbrev certain_row : CertainRow
certain_row = record { tuple = val.Int (pos 1) ∷ []; proof = not_absent }

one_distinct : {K : Type 0} (e : K → K → Bool) (k : K) → IsDistinct e (k ∷ [])
unfolding IsDistinct
one_distinct e k = (tt, tt)

-- what the worlds are where an assertion leaves the database w, and where another one follows it
admitted_alone : (b : Bool) (w : Database) → b ≡ is_some (if b then Some w else None)
admitted_alone true w = refl
admitted_alone false w = refl

admitted_both : (b c : Bool) (w : Database) → b && (c && true) ≡ is_some (option_and_then (λ d. if c then Some d else None) (if b then Some w else None))
admitted_both true true w = refl
admitted_both true false w = refl
admitted_both false c w = refl

where_admitted : (P : Database → Type 0) (b : Bool) (w : Database) → (b ≡ true → P w) → IfSome (if b then Some w else None) P
where_admitted P true w p = p refl
where_admitted P false w p = tt

-- and that no world is without the tuple
opposed : (b : Bool) (w : Database) (f : Option Database → Bool) → f None ≡ false → f (Some w) ≡ not b → b && (not b && true) ≡ f (if b then Some w else None)
opposed true w f n s = sym s
opposed false w f n s = sym n

as_one_tuple : (b : Bool) → not ((b && true) || false) ≡ not b
as_one_tuple true = refl
as_one_tuple false = refl

abbrev is_one : World → Bool
is_one v = same_value (value_of_null v x) (val.Int (pos 1))

means : Means answer all_of_t (take 3 history) []
means v = record {
  worlds = admitted_alone (is_one v) _;
  tuples = where_admitted (λ w. SameSet (shown v answer) (rows v all_of_t w)) (is_one v) _ (λ e tuple. refl);
}

both_asserted : (v : World) → holds_at v (condition_at words 29) ≡ admits v (take 3 history) (asserts 2 ∷ [])
both_asserted v = ap (holds_at v) two_numbers ∙ admitted_both (is_one v) (same_value (value_of_null v x) (val.Int (pos 2))) _

possible : PossibleRight (possible_row ∷ []) all_of_t (take 3 history) []
possible = record {
  distinct = one_distinct same_cells (term.Null x ∷ []);
  in_pattern = sublist.taken sublist.ended;
  witnessed = All-cons (ShowsRow all_of_t (take 3 history) []) possible_row [] refl (All-nil (ShowsRow all_of_t (take 3 history) []));
  tidy = All-cons (λ r. IsTidy r.world) possible_row [] refl (All-nil (λ r. IsTidy r.world));
  complete = λ v tuple. where_admitted (λ w. has_tuple (rows v all_of_t w) tuple ≡ true → has_tuple ((value_of_null v x ∷ []) ∷ []) tuple ≡ true) (is_one v) _ (λ e h. h);
}

abbrev Refutes : CertainRow → Type 0
Refutes r = RefutesAbsence r all_of_t (take 3 history) [] words

certain : CertainRight (certain_row ∷ []) all_of_t (take 3 history) [] words
certain = record {
  distinct = one_distinct same_tuple (val.Int (pos 1) ∷ []);
  exact = λ tuple. (
    (λ e v. where_admitted (λ w. IsTrue (has_tuple (rows v all_of_t w) tuple)) (is_one v) _
        (λ one. subst (λ y. has_tuple ((y ∷ []) ∷ []) tuple ≡ true) (sym ((value_decides (value_of_null v x) (val.Int (pos 1))).0 one)) e)),
    (λ everywhere. everywhere possible_row.world),
  );
  refuted = All-cons Refutes certain_row []
      (record { accepted = not_absent_accepted; root = λ v. ap (holds_at v) number_and_not ∙ opposed (is_one v) _ (is_absent v all_of_t (val.Int (pos 1) ∷ [])) refl (as_one_tuple (is_one v)) })
      (All-nil Refutes);
}

abbrev commits_made : List Reply
commits_made = reply.Committed 1 ∷ reply.Committed 2 ∷ reply.Committed 3 ∷ []

abbrev answers : List Reply
answers =
    reply.Begun 2 ∷ reply.Pending 2 1 ∷ reply.Refused 3 (refusal.Conflict read.Worlds 0 3 3) ∷ reply.Rows 3 0 answer ∷ reply.Refused 3 (refusal.Inconsistent not_two)
    ∷ reply.Possible 3 0 (codes "a" ∷ []) (possible_row ∷ []) ∷ reply.Certain 3 0 (codes "a" ∷ []) (certain_row ∷ []) ∷ []

-- the history as it is printed, each commit with its conditions
abbrev printed_by_one : ℕ → List Node → Change → Commit
printed_by_one n nodes c = record { session = 1; number = n; nodes = nodes; changes = c ∷ [] }

abbrev creating : Commit
creating = printed_by_one 0 [] (change.Create (codes "t") (codes "a" ∷ []))

abbrev filling : Commit
filling = printed_by_one 1 (node.True ∷ []) (change.Insert (codes "t") (record { cells = term.Null x ∷ []; cond = 0 } ∷ []))

abbrev narrowing : Commit
narrowing = printed_by_one 2 (node.Eq (term.Null x) (number 1) ∷ []) (change.Assert 0)

abbrev printed : List Commit
printed = creating ∷ filling ∷ narrowing ∷ []

are_formed : All IsCommitFormed printed
are_formed =
    All-cons IsCommitFormed creating (filling ∷ narrowing ∷ []) (record { ordered = refl; placed = refl })
    (All-cons IsCommitFormed filling (narrowing ∷ []) (record { ordered = refl; placed = refl })
    (All-cons IsCommitFormed narrowing [] (record { ordered = refl; placed = refl }) (All-nil IsCommitFormed)))

abbrev IsOfTwo : PlainCommit → Type 0
IsOfTwo c = (1 ≤ c.session) × (c.session ≤ 2)

of_two : All IsOfTwo history
of_two =
    All-cons IsOfTwo created (filled ∷ asserted ∷ []) (omega arith, omega arith)
    (All-cons IsOfTwo filled (asserted ∷ []) (omega arith, omega arith) (All-cons IsOfTwo asserted [] (omega arith, omega arith) (All-nil IsOfTwo)))

some_world : (m : ℕ) → m ≤ 3 → (v : World) × IsTrue (admits v (take m history) [])
some_world zero le = (possible_row.world, refl)
some_world (suc zero) le = (possible_row.world, refl)
some_world (suc (suc zero)) le = (possible_row.world, refl)
some_world (suc (suc (suc zero))) le = (possible_row.world, refl)
some_world (suc (suc (suc (suc m)))) le = absurd (omega (arith, le))

-- session 1 after so many commits, and session 2 after each of its replies
abbrev after : ℕ → SessionState
after n = record { session = 1; seen = n; fresh = 0; commits = n; transaction = None }

abbrev begun : SessionState
begun = carried 2 (with_transaction (Some (opened 2)) (beginning 2))

abbrev pending : SessionState
pending = carried 2 (extended (plain.Act (asserts 3)) begun)

abbrev ended : SessionState
ended = carried 3 (with_transaction None pending)

-- the row is inserted under the condition of the action
abbrev Holds : PlainRow → Type 0
Holds r = SameTruthAlone r.condition True

abbrev creation : PlainAction
creation = plain.Create (codes "t") (codes "a" ∷ [])

abbrev insertion : PlainAction
insertion = plain.InsertRows (codes "t") ((term.Null x ∷ []) ∷ []) True

module _ (N : ℕ) where
  module _ (create insert assert : List ℕ) (creates : Asks history (beginning 1) create 0 [] (plain.Act creation)) (inserts : Asks history (after 1) insert 1 [] (plain.Act insertion))
      (asserting : Asks history (after 2) assert 2 [] (plain.Act (asserts 1))) where
    committing : AreLawful history words N (beginning 1) (create ∷ insert ∷ assert ∷ []) commits_made (after 3)
    committing = (
      after 1,
      committed_alone history words N (beginning 1) (after 1) create 1 creation created refl creates (omega arith) (omega arith, refl) (refl, refl) ((refl, refl), tt) refl,
      (
        after 2,
        committed_alone history words N (after 1) (after 2) insert 2 insertion filled refl inserts (omega arith) (omega arith, refl) (refl, refl)
            ((refl, refl, All-cons Holds (record { cells = term.Null x ∷ []; condition = True }) [] (λ v. refl) (All-nil Holds)), tt) refl,
        (
          after 3,
          committed_alone history words N (after 2) (after 3) assert 3 (asserts 1) asserted refl asserting (omega arith) (omega arith, refl) (refl, refl) ((λ v. refl), tt) refl,
          refl,
        ),
      ),
    )

    module _ (begin attempt commit select refute possibly certainly : List ℕ) (begins : Orders history (beginning 2) begin plain.Begin) (tries : Asks history begun attempt 2 [] (plain.Act (asserts 3)))
        (commits : Orders history pending commit plain.Commit) (selects : Asks history ended select 3 [] (of_t ask.Rows)) (fails : Asks history ended refute 3 [] (plain.Act (asserts 2)))
        (asks_possible : Asks history ended possibly 3 [] (of_t ask.Possible)) (asks_certain : Asks history ended certainly 3 [] (of_t ask.Certain)) where
      -- the transaction asserted at version 2 that ?x = 3, and commit 3 asserted ?x = 1
      conflict : LawfulReply history words N pending commit (reply.Refused 3 (refusal.Conflict read.Worlds 0 3 3)) ended
      conflict = (
        refl,
        record {
          base = 2;
          reads = read.Worlds ∷ [];
          commits = inl (record { transaction = _; is_open = refl; asks = commits; has_actions = omega arith; base_is = refl; reads_are = refl });
          later = omega arith;
          within = omega arith;
          first = record { before = []; after = []; place = refl; unchanged = All-nil (λ r. last_of (take 3 history) r ≤ 2); written = omega arith };
          was_is = refl;
          now_is = refl;
          next_is = refl;
        },
      )

      rows_shown : LawfulReply history words N ended select (reply.Rows 3 0 answer) ended
      rows_shown = record {
        actions = [];
        query = all_of_t;
        sees = (omega arith, omega arith, refl);
        asks = selects;
        plus_is = refl;
        formed = record { ordered = refl; global_placed = refl; rows_placed = refl; distinct = one_distinct same_cells (term.Null x ∷ []) };
        means = means;
        in_pattern = sublist.taken sublist.ended;
        next_is = refl;
      }

      refuted : LawfulReply history words N ended refute (reply.Refused 3 (refusal.Inconsistent not_two)) ended
      refuted = (
        record {
          actions = [];
          action = asserts 2;
          is = refl;
          sees = (omega arith, omega arith, refl);
          asks = fails;
          none_satisfies = λ v. sym (both_asserted v) ∙ root_refuted words 29 not_two.derivation formed not_two_accepted v;
          accepted = not_two_accepted;
          root = both_asserted;
        },
        refl,
      )

      possible_shown : LawfulReply history words N ended possibly (reply.Possible 3 0 (codes "a" ∷ []) (possible_row ∷ [])) ended
      possible_shown = record { actions = []; query = all_of_t; sees = (omega arith, omega arith, refl); asks = asks_possible; plus_is = refl; right = possible; next_is = refl }

      certain_shown : LawfulReply history words N ended certainly (reply.Certain 3 0 (codes "a" ∷ []) (certain_row ∷ [])) ended
      certain_shown = record { actions = []; query = all_of_t; sees = (omega arith, omega arith, refl); asks = asks_certain; plus_is = refl; right = certain; next_is = refl }

      answered : AreLawful history words N (beginning 2) (begin ∷ attempt ∷ commit ∷ select ∷ refute ∷ possibly ∷ certainly ∷ []) answers ended
      answered = (
        begun,
        record { none_open = refl; asks = begins; from_seen = omega arith; within = omega arith; next_is = refl },
        (
          pending,
          record {
            actions = [];
            action = asserts 3;
            is_open = refl;
            sees = (refl, refl);
            asks = tries;
            plus_is = refl;
            leaves = ((x, val.Int (pos 3)) ∷ [], refl);
            next_is = refl;
          },
          (ended, conflict, (ended, rows_shown, (ended, refuted, (ended, possible_shown, (ended, certain_shown, refl))))),
        ),
      )

      -- the whole transcript
      module _ (script script' : List ℕ) (texts_are : texts script ≡ create ∷ insert ∷ assert ∷ [])
          (texts_are' : texts script' ≡ begin ∷ attempt ∷ commit ∷ select ∷ refute ∷ possibly ∷ certainly ∷ []) where
        abbrev transcript : Transcript
        transcript = record {
          sessions = record { script = script; replies = commits_made } ∷ record { script = script'; replies = answers } ∷ [];
          history = printed;
          words = words;
        }

        lawful : 32 ≤ N → Lawful transcript N
        lawful fits = record {
          begins = front;
          fits = omega (arith, many, fits);
          formed = formed;
          stands = stands;
          commits_formed = are_formed;
          sessions = (
            record { last = after 3; replies = subst (λ ts. AreLawful history words N (beginning 1) ts commits_made (after 3)) (sym texts_are) committing; commits = refl; full = tt },
            (record { last = ended; replies = subst (λ ts. AreLawful history words N (beginning 2) ts answers ended) (sym texts_are') answered; commits = refl; full = tt }, tt),
          );
          no_others = of_two;
          worlds = some_world;
        }
