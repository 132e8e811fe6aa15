-- What a committed transaction was answered is right at the commit before its own too: nothing that it read was written since
-- its base, so the commits between change no answer of it.
use Rattle.std.{proofs.Common.{◌≡◌, ℕ, ◌+◌, ◌-◌, ◌<◌, ◌≤◌, Bool, false, not, List, [], ◌∷◌, ◌++◌, map, length, take, drop, refl, ap, sym, subst, ◌∙◌, arith, inl, inr, length-take}, proofs.lemmas.Bool.false≢true}
use Rattle.std.{specs.Prelude.{All, Option, Some, None, IsSome, IfSome, IsSomeAnd, IsTrue, option_map, ⊤}, proofs.lemmas.Option.{none-some, slice_get_within}}
use Rattle.std.{proofs.lemmas.List.{append-nil, take-append-drop, take-append-le}, proofs.lemmas.List.Elements.{All-nil, All-append, All-weaker, All-from_recursion, recursion_from_All}}
use Rattle.std.proofs.lemmas.Grind.{flat_map-append}
use Rattle.ct_word.{specs.declared.values.Value.Value, specs.Value.{World, tuple_at}, specs.Change.PlainCommit, specs.Sublist.IsSublist}
use Rattle.ct_query.{specs.declared.action.Read.Read, specs.Database.{Database, has_tuple}, specs.Frame.{AreOlder, reads_of_actions, SameForQuery}, specs.Patterns.pattern}
use Rattle.ct_query.{specs.Plain.{PlainQuery, PlainAction, PlainStatement}, specs.Reads.{action_reads, query_reads, reads_of, with_reads, last as last_of}, specs.Rows.rows}
use Rattle.ct_query.{specs.Worlds.{world, admits}, proofs.Frame.same_for_query, proofs.Within.of_added}
use Rattle.ct_rewrite.{specs.History.plain_history, specs.declared.answer.PossibleRow.PossibleRow, specs.declared.answer.CertainRow.CertainRow}
use Rattle.ct_transcript.{specs.Means.{Means, allowed, shown}, specs.Possible.{ShowsRow, PossibleRight}, specs.Certain.{IsCertain, is_absent, RefutesAbsence, CertainRight}}
use Rattle.ct_transcript.{specs.declared.reply.Answer.Answer, specs.declared.reply.Reply.Reply, specs.declared.reply.Refusal.Refusal, specs.declared.reply.SessionLog.SessionLog}
use Rattle.ct_transcript.specs.declared.transcript.Transcript.{Transcript}
use Rattle.ct_transaction.{specs.LawfulRefusal.LawfulRefusal, specs.LawfulReply.LawfulReply, specs.Seeing.SeesIn}
use Rattle.ct_transaction.specs.State.{Transaction, SessionState, carried, extended, extended_at, extended_by, actions_of}
use Rattle.ct_serve.{specs.Lawful.Lawful, specs.Serial.{committed_later, IsRightAfter, AreSerial, AreSerialSessions, IsSerial}, specs.Sessions.{AreLawful, AreLawfulSessions}}
use Rattle.ct_query.specs.Plain as plain
use Rattle.ct_query.specs.declared.action.Ask.TheVariants as ask
use Rattle.ct_transcript.specs.declared.reply.Reply.TheVariants as reply
use Rattle.ct_transcript.specs.declared.reply.Refusal.TheVariants as refusal

some_same : {A : Type 0} (a b : A) → Some a ≡ Some b → a ≡ b
some_same a b e = cc

-- what is said of a query's tuples alone, where there is a database
module _ {A : Type 0} (f : Database → A) (P : A → Type 0) where
  if_some : (o p : Option Database) → option_map f o ≡ option_map f p → IfSome o (λ w. P (f w)) → IfSome p (λ w. P (f w))
  if_some o None e h = tt
  if_some None (Some w) e h = absurd (none-some (f w) e)
  if_some (Some w) (Some w') e h = subst P (some_same (f w) (f w') e) h

  some_and : (o p : Option Database) → option_map f o ≡ option_map f p → IsSomeAnd o (λ w. P (f w)) → IsSomeAnd p (λ w. P (f w))
  some_and None p e h = absurd h
  some_and (Some w) None e h = absurd (none-some (f w) (sym e))
  some_and (Some w) (Some w') e h = subst P (some_same (f w) (f w') e) h

absent_in : (v : World) (q : PlainQuery) (tuple : List Value) (o p : Option Database) → option_map (rows v q) o ≡ option_map (rows v q) p → is_absent v q tuple o ≡ is_absent v q tuple p
absent_in v q tuple None None e = refl
absent_in v q tuple None (Some w) e = absurd (none-some (rows v q w) e)
absent_in v q tuple (Some w) None e = absurd (none-some (rows v q w) (sym e))
absent_in v q tuple (Some w) (Some w') e = ap (λ ts. not (has_tuple ts tuple)) (some_same (rows v q w) (rows v q w') e)

-- an answer that is right after a history is right after later commits too, where they change nothing for its query
module _ (h later : List PlainCommit) (actions : List PlainAction) (q : PlainQuery) (same : SameForQuery h later actions q) where
  means_later : (answer : Answer) → Means answer q h actions → Means answer q (h ++ later) actions
  means_later answer m v = same.shown (allowed v answer) (shown v answer) v (m v)

  possible_later : (list : List PossibleRow) → PossibleRight list q h actions → PossibleRight list q (h ++ later) actions
  possible_later list p = record {
    distinct = p.distinct;
    in_pattern = subst (IsSublist (map (λ (r : PossibleRow). r.cells) list)) (sym same.patterns) p.in_pattern;
    witnessed = All-weaker (ShowsRow q h actions) (ShowsRow q (h ++ later) actions)
        (λ r s. some_and (rows r.world q) (λ ts. IsTrue (has_tuple ts (tuple_at r.world r.cells))) (world r.world h actions) (world r.world (h ++ later) actions) (sym (same.tuples r.world)) s) list p.witnessed;
    tidy = p.tidy;
    complete = λ v tuple.
        if_some (rows v q) (λ ts. IsTrue (has_tuple ts tuple) → IsTrue (has_tuple (map (λ (r : PossibleRow). tuple_at v r.cells) list) tuple))
        (world v h actions) (world v (h ++ later) actions) (sym (same.tuples v)) (p.complete v tuple);
  }

  certain_later : (words : List ℕ) (list : List CertainRow) → CertainRight list q h actions words → CertainRight list q (h ++ later) actions words
  certain_later words list c = record {
    distinct = c.distinct;
    exact = λ tuple. (λ e. there tuple ((c.exact tuple).0 e), λ all. (c.exact tuple).1 (here tuple all));
    refuted = All-weaker (λ r. RefutesAbsence r q h actions words) (λ r. RefutesAbsence r q (h ++ later) actions words)
        (λ r n. record { accepted = n.accepted; root = λ v. n.root v ∙ absent_in v q r.tuple (world v h actions) (world v (h ++ later) actions) (sym (same.tuples v)) }) list c.refuted;
  } where
    there : (tuple : List Value) → IsCertain q h actions tuple → IsCertain q (h ++ later) actions tuple
    there tuple all v = if_some (rows v q) (λ ts. IsTrue (has_tuple ts tuple)) (world v h actions) (world v (h ++ later) actions) (sym (same.tuples v)) (all v)

    here : (tuple : List Value) → IsCertain q (h ++ later) actions tuple → IsCertain q h actions tuple
    here tuple all v = if_some (rows v q) (λ ts. IsTrue (has_tuple ts tuple)) (world v (h ++ later) actions) (world v h actions) (same.tuples v) (all v)

-- what a transaction reads is among its reads: what none of these has, none of what its actions read has
abbrev pub IsUnwritten : List PlainCommit → ℕ → ℕ → Read → Type 0
IsUnwritten H k base r = last_of (take k H) r ≤ base

module _ (H : List PlainCommit) where
  abbrev pub ReadsAll : Option Transaction → Type 0
  ReadsAll None = ⊤
  ReadsAll (Some t) = (k base : ℕ) → All (IsUnwritten H k base) t.reads → All (IsUnwritten H k base) (reads_of_actions t.actions)

  -- the reads of a transaction after a statement are those before it and those of the statement
  both_reads : (P : Read → Type 0) (st : PlainStatement) (t : Transaction) → All P (extended_by st t).reads → All P t.reads × All P (reads_of st)
  both_reads P st t all =
      let parts = of_added P t.reads (reads_of st) (recursion_from_All P (extended_by st t).reads all) in
      (All-from_recursion P t.reads parts.0, All-from_recursion P (reads_of st) parts.1)

  own_reads : (P : Read → Type 0) (st : PlainStatement) → All P (reads_of st) → All P (reads_of_actions (actions_of st))
  own_reads P (plain.Act a) all = subst (All P) (sym (append-nil (action_reads a))) all
  own_reads P (plain.Asks k columns q) all = All-nil P
  own_reads P plain.Begin all = All-nil P
  own_reads P plain.Commit all = All-nil P
  own_reads P plain.Rollback all = All-nil P

  extended_reads : (st : PlainStatement) (t : Transaction) → ReadsAll (Some t) → ReadsAll (Some (extended_by st t))
  extended_reads st t known k base all =
      let parts = both_reads (IsUnwritten H k base) st t all in
      subst (All (IsUnwritten H k base)) (sym (flat_map-append action_reads t.actions (actions_of st)))
      (All-append (IsUnwritten H k base) (reads_of_actions t.actions) (reads_of_actions (actions_of st)) (known k base parts.0) (own_reads (IsUnwritten H k base) st parts.1))

  -- a transaction becomes commit m, by which nothing that it has read so far was written since its base
  record Becomes (t : Transaction) (m : ℕ) : Type 0 where
    later : t.base < m
    within : m ≤ length H
    unwritten : All (IsUnwritten H (m - 1) t.base) t.reads

  becomes_before : (st : PlainStatement) (t : Transaction) (m : ℕ) → Becomes (extended_by st t) m → Becomes t m
  becomes_before st t m b = record { later = b.later; within = b.within; unwritten = (both_reads (IsUnwritten H (m - 1) t.base) st t b.unwritten).0 }

  -- a query that it has read is answered alike at its base and at the commit before its own
  module _ (t : Transaction) (m : ℕ) (k : PlainStatement) (known : ReadsAll (Some t)) (b : Becomes (extended_by k t) m) where
    abbrev before : List PlainCommit
    before = take (m - 1) H

    abbrev between : List PlainCommit
    between = drop t.base before

    enough : t.base ≤ length before
    enough = let lt : t.base < m = b.later in let le = b.within in simp length-take (omega (arith, lt, le))

    from_base : take t.base H ≡ take t.base before
    from_base = ap (take t.base) (sym (take-append-drop (m - 1) H)) ∙ take-append-le t.base before (drop (m - 1) H) enough

    all_before : take t.base H ++ between ≡ before
    all_before = ap (λ l. l ++ between) from_base ∙ take-append-drop t.base before

    base_length : length (take t.base H) ≡ t.base
    base_length = let lt : t.base < m = b.later in let le = b.within in simp length-take (omega (arith, lt, le))

    older : (rs : List Read) → All (IsUnwritten H (m - 1) t.base) rs → AreOlder (take t.base H) between rs
    older rs all = All-weaker (IsUnwritten H (m - 1) t.base) (λ r. last_of (take t.base H ++ between) r ≤ length (take t.base H))
        (λ r le. subst (λ n. last_of (take t.base H ++ between) r ≤ n) (sym base_length) (subst (λ l. last_of l r ≤ t.base) (sym all_before) le)) rs all

    same_there : (q : PlainQuery) → reads_of k ≡ query_reads q → SameForQuery (take t.base H) between t.actions q
    same_there q e =
        let parts = both_reads (IsUnwritten H (m - 1) t.base) k t b.unwritten in
        same_for_query (take t.base H) between t.actions q (older (reads_of_actions t.actions) (known (m - 1) t.base parts.0)) (older (query_reads q) (subst (All (IsUnwritten H (m - 1) t.base)) e parts.1))

module _ (H : List PlainCommit) (W : List ℕ) (N : ℕ) where
  module _ (s next : SessionState) (x : List ℕ) where
    -- a transaction that is open stays so after a statement that extends it
    open_after : (at : ℕ) (st : PlainStatement) (t : Transaction) → s.transaction ≡ Some t → next ≡ carried at (extended st s) → next.transaction ≡ Some (extended_by st t)
    open_after at st t is e = ap (λ (n : SessionState). n.transaction) e ∙ ap (λ o. (extended_at o st s).transaction) is

    known_after : (at : ℕ) (st : PlainStatement) → ReadsAll H s.transaction → next ≡ carried at (extended st s) → ReadsAll H next.transaction
    known_after at st known e = subst (λ (n : SessionState). ReadsAll H n.transaction) (sym e) (by_open s.transaction refl known) where
      by_open : (o : Option Transaction) → s.transaction ≡ o → ReadsAll H o → ReadsAll H (extended_at o st s).transaction
      by_open None is k = subst (ReadsAll H) (sym is) tt
      by_open (Some t) is k = extended_reads H st t k

    known_refused : (at : ℕ) (why : Refusal) → LawfulRefusal H W N s x at why next → ReadsAll H s.transaction → ReadsAll H next.transaction
    known_refused at (refusal.Conflict table was now at') l known = subst (λ (n : SessionState). ReadsAll H n.transaction) (sym l.1.next_is) tt
    known_refused at _ l known = subst (λ (n : SessionState). ReadsAll H n.transaction) (sym l.1) known

    known_next : (r : Reply) → LawfulReply H W N s x r next → ReadsAll H s.transaction → ReadsAll H next.transaction
    known_next (reply.Begun at) l known = subst (λ (n : SessionState). ReadsAll H n.transaction) (sym l.next_is) (λ k base all. All-nil (IsUnwritten H k base))
    known_next reply.RolledBack l known = subst (λ (n : SessionState). ReadsAll H n.transaction) (sym l.next_is) tt
    known_next (reply.Pending at plus) l known = known_after at (plain.Act l.action) known l.next_is
    known_next (reply.Committed m) (inl l) known = subst (λ (n : SessionState). ReadsAll H n.transaction) (sym l.next_is) known
    known_next (reply.Committed m) (inr l) known = subst (λ (n : SessionState). ReadsAll H n.transaction) (sym l.next_is) tt
    known_next (reply.Nothing at) l known = subst (λ (n : SessionState). ReadsAll H n.transaction) (sym l.next_is) tt
    known_next (reply.Rows at plus answer) l known = known_after at _ known l.next_is
    known_next (reply.Possible at plus columns list) l known = known_after at _ known l.next_is
    known_next (reply.Certain at plus columns list) l known = known_after at _ known l.next_is
    known_next (reply.Refused at why) l known = known_refused at why l known

    module _ (t : Transaction) (is : s.transaction ≡ Some t) (m : ℕ) (rs : List Reply) where
      -- what becomes of the transaction after this reply
      abbrev Then : Type 0
      Then = (t' : Transaction) → next.transaction ≡ Some t' → committed_later rs ≡ Some m → Becomes H t' m

      extends : (at : ℕ) (st : PlainStatement) → next ≡ carried at (extended st s) → Then → committed_later rs ≡ Some m → Becomes H t m
      extends at st e rest c = becomes_before H st t m (rest (extended_by st t) (open_after at st t is e) c)

      refuses : (at : ℕ) (why : Refusal) → LawfulRefusal H W N s x at why next → Then → committed_later (reply.Refused at why ∷ rs) ≡ Some m → Becomes H t m
      refuses at (refusal.Conflict table was now at') l rest c = absurd (none-some m c)
      refuses at _ l rest c = rest t (ap (λ (n : SessionState). n.transaction) l.1 ∙ is) c

      not_open : s.transaction ≡ None → ⊥
      not_open e = none-some t (sym e ∙ is)

      becomes_next : (r : Reply) → LawfulReply H W N s x r next → Then → committed_later (r ∷ rs) ≡ Some m → Becomes H t m
      becomes_next (reply.Begun at) l rest c = absurd (not_open l.none_open)
      becomes_next reply.RolledBack l rest c = absurd (none-some m c)
      becomes_next (reply.Pending at plus) l rest c = extends at (plain.Act l.action) l.next_is rest c
      becomes_next (reply.Committed m') (inl l) rest c = absurd (not_open l.none_open)
      becomes_next (reply.Committed m') (inr l) rest c =
          let lt = slice_get_within H (m' - 1) l.commit l.stands.1 in
          let over = l.stands.0 in
          subst (Becomes H t) (some_same m' m c)
          (subst (λ u. Becomes H u m') (some_same l.transaction t (sym l.is_open ∙ is)) (record { later = l.later; within = omega (arith, lt, over); unwritten = l.unchanged }))
      becomes_next (reply.Nothing at) l rest c = absurd (none-some m c)
      becomes_next (reply.Rows at plus answer) l rest c = extends at _ l.next_is rest c
      becomes_next (reply.Possible at plus columns list) l rest c = extends at _ l.next_is rest c
      becomes_next (reply.Certain at plus columns list) l rest c = extends at _ l.next_is rest c
      becomes_next (reply.Refused at why) l rest c = refuses at why l rest c

      -- the answer of a query in the transaction is right at the commit before its own
      module _ (known : ReadsAll H (Some t)) (rest : Then) (c : committed_later rs ≡ Some m) where
        extended_becomes : (at : ℕ) (st : PlainStatement) → next ≡ carried at (extended st s) → Becomes H (extended_by st t) m
        extended_becomes at st e = rest (extended_by st t) (open_after at st t is e) c

        -- what holds at the base holds there, for what a statement in the transaction sees
        there : (P : List PlainCommit → List PlainAction → Type 0) (at : ℕ) (actions : List PlainAction) (st : PlainStatement) (b : Becomes H (extended_by st t) m) → SeesIn H s.transaction s at actions
            → (P (take t.base H) t.actions → P (take t.base H ++ between H t m st known b) t.actions) → P (take at H) actions → P (take (m - 1) H) actions
        there P at actions st b sees step p =
            let seen : SeesIn H (Some t) s at actions = subst (λ o. SeesIn H o s at actions) is sees in
            subst (P (take (m - 1) H)) (sym seen.1) (subst (λ l. P l t.actions) (all_before H t m st known b) (step (subst (P (take t.base H)) seen.1 (subst (λ n. P (take n H) actions) seen.0 p))))

        right_after : (r : Reply) (l : LawfulReply H W N s x r next) → IsRightAfter H W N (take (m - 1) H) s next x r l
        right_after (reply.Rows at plus answer) l =
            let st = plain.Asks ask.Rows answer.columns l.query in
            let b = extended_becomes at st l.next_is in
            let same = same_there H t m st known b l.query refl in (
              there (λ h actions. Means answer l.query h actions) at l.actions st b l.sees (means_later (take t.base H) (between H t m st known b) t.actions l.query same answer) l.means,
              there (λ h actions. IsSublist (map (λ r. r.cells) answer.rows) (pattern h actions l.query)) at l.actions st b l.sees (subst (IsSublist (map (λ r. r.cells) answer.rows)) (sym same.patterns)) l.in_pattern,
            )
        right_after (reply.Possible at plus columns list) l =
            let st = plain.Asks ask.Possible columns l.query in
            let b = extended_becomes at st l.next_is in
            let same = same_there H t m st known b l.query refl in
            there (λ h actions. PossibleRight list l.query h actions) at l.actions st b l.sees (possible_later (take t.base H) (between H t m st known b) t.actions l.query same list) l.right
        right_after (reply.Certain at plus columns list) l =
            let st = plain.Asks ask.Certain columns l.query in
            let b = extended_becomes at st l.next_is in
            let same = same_there H t m st known b l.query refl in
            there (λ h actions. CertainRight list l.query h actions W) at l.actions st b l.sees (certain_later (take t.base H) (between H t m st known b) t.actions l.query same W list) l.right
        right_after _ l = tt

  becomes : (s last : SessionState) (xs : List (List ℕ)) (rs : List Reply) (t : Transaction) (m : ℕ) → s.transaction ≡ Some t → AreLawful H W N s xs rs last → committed_later rs ≡ Some m → Becomes H t m
  becomes s last [] [] t m is l c = absurd (none-some m c)
  becomes s last (x ∷ xs) (r ∷ rs) t m is l c = becomes_next s l.0 x t is m rs r l.1 (λ t' is' c'. becomes l.0 last xs rs t' m is' l.2 c') c
  becomes s last [] (r ∷ rs) t m is l c = absurd l
  becomes s last (x ∷ xs) [] t m is l c = absurd l

  pub serial : (s last : SessionState) (xs : List (List ℕ)) (rs : List Reply) → ReadsAll H s.transaction → (l : AreLawful H W N s xs rs last) → AreSerial H W N s xs rs last l
  serial s last [] [] known l = tt
  serial s last (x ∷ xs) (r ∷ rs) known l =
      ((λ some. by_commit s.transaction refl some (committed_later rs) refl), serial l.0 last xs rs (known_next s l.0 x r l.1 known) l.2) where
        by_commit : (o : Option Transaction) → s.transaction ≡ o → IsSome o → (p : Option ℕ) → committed_later rs ≡ p → IfSome p (λ m. IsRightAfter H W N (take (m - 1) H) s l.0 x r l.1)
        by_commit None is some p c = absurd (false≢true some)
        by_commit (Some t) is some None c = tt
        by_commit (Some t) is some (Some m) c =
            right_after s l.0 x t is m rs (subst (ReadsAll H) is known) (λ t' is' c'. becomes l.0 last xs rs t' m is' l.2 c') c r l.1
  serial s last [] (r ∷ rs) known l = absurd l
  serial s last (x ∷ xs) [] known l = absurd l

  all_serial : (s : ℕ) (logs : List SessionLog) → AreSerialSessions H W N s logs
  all_serial s [] = tt
  all_serial s (log ∷ logs) = ((λ last l. serial _ last _ log.replies tt l), all_serial (s + 1) logs)

-- the replies of a lawful transcript are serial
pub lawful_serial : (t : Transcript) (N : ℕ) → Lawful t N → IsSerial t N
lawful_serial t N l = all_serial (plain_history t.history) t.words N 1 t.sessions
