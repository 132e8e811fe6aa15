-- From what was prepared, or why a statement was refused, to the reply, however the words go on: for any state, in a
-- transaction or outside.
use Rattle.std.proofs.Common.{◌≡◌, ◌≢◌, ℕ, ◌≤◌, List, [], ◌∷◌, ◌++◌, length, take, map, max, refl, ap, sym, subst, ◌∙◌, arith}
use Rattle.std.{specs.Prelude.{Option, Some, None, Ok, Err, IsTrue, IsSome, IfSome}, specs.Option.option_to_list, proofs.lemmas.Bool.false≢true}
use Rattle.std.proofs.lemmas.List.{append-nil}
use Rattle.ct_word.{specs.Condition.holds_at, specs.Sublist.IsSublist, specs.Change.{PlainChange, PlainCommit}, specs.Reading.commits_of}
use Rattle.ct_word.{specs.StandsFor.StandsFor, proofs.Prefixes.{condition_in_prefix, place_within, prefix_of_prefix, prefix_same}}
use Rattle.ct_derivation.{specs.declared.steps.Proof.Proof, proofs.Longer.accepted_longer}
use Rattle.ct_arena.{specs.Seen.Seen, specs.Counts.AreNumbered}
use Rattle.ct_condition.specs.Writes.{kept_of}
use Rattle.ct_table.specs.Snapshot.{commits_to}
use Rattle.ct_query.{specs.Plain.{PlainAction, PlainStatement, PlainQuery}, specs.declared.action.Ask.Ask, specs.declared.action.Read.Read, specs.Reads.reads_of, specs.Schema.schema}
use Rattle.ct_query.{specs.Bounds.bound, specs.Patterns.count, specs.declared.schema.Schema.Schema}
use Rattle.ct_rewrite.{specs.declared.answer.PossibleRow.PossibleRow, specs.declared.answer.CertainRow.CertainRow}
use Rattle.ct_transcript.{specs.declared.reply.Answer.Answer, specs.Means.{allowed, shown}, specs.Possible.PossibleRight, specs.Certain.CertainRight}
use Rattle.ct_transcript.{specs.declared.reply.Reply.Reply, specs.declared.reply.Refusal.Refusal}
use Rattle.ct_parse.specs.declared.tree.Statement.{Statement}
use Rattle.ct_resolve.{specs.declared.error.ResolveError.ResolveError, specs.Found.Found, specs.Statements.resolved}
use Rattle.ct_statement.{specs.declared.replying.Answered.Answered, specs.declared.sight.Sight.Sight, specs.Answered.{IsAnswerFor, Answers as IsAnswered}}
use Rattle.ct_statement.{specs.Making.widths_in, specs.Unmet.asked_size, proofs.Weights.makes_words_still}
use Rattle.ct_transaction.{specs.Statements.ReadsAs, specs.State.{Transaction, SessionState, carried, extended, extended_at, own_actions}}
use Rattle.ct_transaction.{specs.Seeing.{Sees, ResolvesTo}, specs.LawfulRefusal.{IsNameFault, IsTooLarge, IsFull, IsInconsistent, LawfulRefusal}}
use Rattle.ct_transaction.{specs.LawfulReply.{IsRows, IsPossible, IsCertain, LawfulReply}, specs.Replying.{reply_of, standing}, proofs.Own.own_commits_stay}
use Rattle.ct_transaction.specs.Answers.{committed_of, version_of, is_full, commits_by, GoesOn, ConflictsLater, Answers}
use Rattle.ct_transaction.specs.Prepared.{ForAnswer, IsPrepared, IsPreparedFor, IsUnmetAt, IsRefused, by_name, unmet, wanting_memory, name_refusal}
use Rattle.ct_transaction.{proofs.Going.{prefix_short, IsOnward, onward}, proofs.Listed.{root_place, possible_kept, certain_kept, certain_longer}}
use mathlib.Core.List.{IsPrefix}
use Rattle.ct_word.specs.declared.kinds.Class.TheVariants as class
use Rattle.ct_query.specs.Plain as plain
use Rattle.ct_query.specs.declared.action.Ask.TheVariants as ask
use Rattle.ct_transcript.specs.declared.reply.Reply.TheVariants as reply
use Rattle.ct_transcript.specs.declared.reply.Refusal.TheVariants as refusal
use Rattle.ct_resolve.specs.declared.error.ResolveError.TheVariants as name
use Rattle.ct_statement.specs.declared.replying.Answered.TheVariants as answered
use Rattle.ct_transaction.specs.declared.preparing.Prepared.TheVariants as prepared

-- words go on without a commit of the session
pub record Proceeds (N session : ℕ) (words now : List ℕ) : Type 0 where
  pub longer : IsPrefix words now
  pub room : length now ≤ N
  pub own : commits_by session 1 (commits_of now) ≡ commits_by session 1 (commits_of words)

-- so they do where the session's pass has as many commits as before
pub proceeds : (N : ℕ) (pass pass' : Seen) → IsPrefix pass.words pass'.words → kept_of pass' ≡ kept_of pass → length pass'.words ≤ N
    → AreNumbered pass.session pass.mine pass.words → AreNumbered pass'.session pass'.mine pass'.words → Proceeds N pass.session pass.words pass'.words
proceeds N pass pass' longer kept room old new =
    let session : pass'.session ≡ pass.session = cc in
    let mine : pass'.mine ≡ pass.mine = cc in
    record {
      longer = longer;
      room = room;
      own = own_commits_stay pass.session pass.mine pass.words pass'.words longer old (subst (λ s. AreNumbered s pass.mine pass'.words) session (subst (λ m. AreNumbered pass'.session m pass'.words) mine new));
    }

-- a reply that commits nothing and is lawful however the words go on
pub answers_uncommitted : (N : ℕ) (s next : SessionState) (words now x : List ℕ) (r : Reply) → Proceeds N s.session words now → next.session ≡ s.session → committed_of r ≡ None
    → (IsTrue (is_full r) → length now ≡ N) → (s.transaction ≡ None → IfSome (version_of r) (λ at. length (commits_of words) ≤ at)) → (s.transaction ≡ None → ConflictsLater N s next words now x r)
    → ((W : List ℕ) → GoesOn N now W → (H : List PlainCommit) → StandsFor H W → LawfulReply H W N s x r next) → Answers N s next words now x r
answers_uncommitted N s next words now x r p same none full newest later lawful = record {
  lawful = lawful;
  newest = newest;
  later = later;
  longer = p.longer;
  room = p.room;
  same = same;
  commits = p.own ∙ sym (append-nil (commits_by s.session 1 (commits_of words))) ∙ ap (λ o. commits_by s.session 1 (commits_of words) ++ option_to_list o) (sym none);
  full = full;
  not_full = λ some. absurd (nothing (committed_of r) none some);
} where
  nothing : (o : Option ℕ) → o ≡ None → IsSome o → ⊥
  nothing None e some = false≢true some
  nothing (Some m) e some = cc

-- words that stay proceed
pub proceeds_same : (N session : ℕ) (words : List ℕ) → length words ≤ N → Proceeds N session words words
proceeds_same N session words room = record { longer = prefix_same words; room = room; own = refl }

-- where words went on before the statement of a transaction was answered, it is answered so from the first ones too
pub answers_later : (N : ℕ) (s next : SessionState) (words mid now x : List ℕ) (r : Reply) → (s.transaction ≡ None → ⊥) → Proceeds N s.session words mid → Answers N s next mid now x r → Answers N s next words now x r
answers_later N s next words mid now x r is_open p a = record {
  lawful = a.lawful;
  newest = λ none. absurd (is_open none);
  later = λ none. absurd (is_open none);
  longer = prefix_of_prefix words mid now p.longer a.longer;
  room = a.room;
  same = a.same;
  commits = a.commits ∙ ap (λ l. l ++ option_to_list (committed_of r)) p.own;
  full = a.full;
  not_full = λ some. let lt = a.not_full some in let short = prefix_short words mid p.longer in omega (arith, lt, short);
}

-- the state after a reply that carries what was seen
pub carried_same : (s : SessionState) → carried s.seen s ≡ s
carried_same s = λ i. record s { seen = same i } where
  same : max s.seen s.seen ≡ s.seen
  same = omega arith

-- want of memory leaves the state
pub memory_answers : (N : ℕ) (s : SessionState) (words now x : List ℕ) → Proceeds N s.session words now → Answers N s s words now x (reply.Refused s.seen refusal.Memory)
memory_answers N s words now x p =
    answers_uncommitted N s s words now x (reply.Refused s.seen refusal.Memory) p refl refl (λ e. absurd (false≢true e)) (λ none. tt) (λ none. tt)
    (λ W g H stands. (refl, sym (carried_same s)))

-- an extended state is of the same session
pub extended_session : (t : Option Transaction) (st : PlainStatement) (s : SessionState) → (extended_at t st s).session ≡ s.session
extended_session None st s = refl
extended_session (Some t) st s = refl

-- a query's answer is no commit, and no refusal for a full log; it rests on its version
answered_uncommitted : (at plus : ℕ) (a : Answered) → committed_of (reply_of at plus a) ≡ None
answered_uncommitted at plus (answered.Rows answer) = refl
answered_uncommitted at plus _ = refl

answered_fits : (at plus : ℕ) (a : Answered) → IsTrue (is_full (reply_of at plus a)) → ⊥
answered_fits at plus (answered.Rows answer) e = false≢true e
answered_fits at plus _ e = false≢true e

answered_at : (at plus n : ℕ) (a : Answered) → n ≤ at → IfSome (version_of (reply_of at plus a)) (λ m. n ≤ m)
answered_at at plus n (answered.Rows answer) le = le
answered_at at plus n _ le = le

-- what an answer was prepared for
pub prepared_answer : (words : List ℕ) (h : List PlainCommit) (before : List PlainAction) (list : List PlainChange) (session fresh : ℕ) (sight : Sight) (st : Statement) (given : Answered) (reads : List Read)
    → IsPrepared words h before list session fresh sight st (prepared.Answer given) reads → ForAnswer words h before session fresh st given reads
prepared_answer words h before list session fresh sight st given reads p = by_asked p.asked p.resolves p.reads_are p.prepared where
  by_asked : (asked : PlainStatement) → resolved (schema h before) session fresh st ≡ Ok asked → reads ≡ reads_of asked → IsPreparedFor words h before list fresh sight asked (prepared.Answer given)
      → ForAnswer words h before session fresh st given reads
  by_asked (plain.Asks k columns query) resolves e o = record { kind = k; columns = columns; query = query; resolves = resolves; answers = o; reads_are = e }
  by_asked _ resolves e o = absurd o

-- a statement that sees a version of the words with these actions, whatever history stands for them; the words of it are there
module _ (N : ℕ) (s : SessionState) (x : List ℕ) (st : Statement) (reads : ReadsAs x st) (now : List ℕ) (version : ℕ) (actions : List PlainAction) (within : version ≤ length (commits_of now))
    (sees : (H : List PlainCommit) → version ≤ length H → Sees H s version actions) where
  abbrev pub seen_commits : List PlainCommit
  seen_commits = commits_to now version

  -- the words go on, and a history stands for them
  module _ (W : List ℕ) (g : GoesOn N now W) (H : List PlainCommit) (stands : StandsFor H W) where
    abbrev on : IsOnward seen_commits version H
    on = onward now version within W g.log H stands

    abbrev sees_on : Sees H s version actions
    sees_on = sees H on.within

    abbrev pub resolves_on : (r : Found PlainStatement) → resolved (schema seen_commits actions) s.session s.fresh st ≡ r → ResolvesTo H s x version actions r
    resolves_on r e = record { statement = st; reads = reads; gives = ap (λ sch. resolved sch s.session s.fresh st) (sym (on.keeps.schemas actions)) ∙ e }

    -- a name or a count does not fit
    name_fault : (e : ResolveError) → resolved (schema seen_commits actions) s.session s.fresh st ≡ Err e → IsNameFault H W N s x version e
    name_fault e r = record { actions = actions; sees = sees_on; found = resolves_on (Err e) r }

    name_lawful : (e : ResolveError) → e ≢ name.Memory → resolved (schema seen_commits actions) s.session s.fresh st ≡ Err e
        → LawfulRefusal H W N s x (standing s.seen version (name_refusal e)) (name_refusal e) (carried (standing s.seen version (name_refusal e)) s)
    name_lawful name.Memory n r = absurd (n refl)
    name_lawful e n r = (name_fault e r, refl)

    -- what it evaluates is too large
    too_large : IsUnmetAt seen_commits actions N now s.session s.fresh st refusal.TooLarge → IsTooLarge H W N s x version
    too_large u = record {
      actions = actions;
      statement = u.asked;
      asked = u.unmet.asked;
      sees = sees_on;
      asks = resolves_on (Ok u.asked) u.resolves;
      evaluates = subst (λ (counts : List ℕ → ℕ). asked_size counts u.asked ≡ Some u.unmet.asked) (λ i t. on.keeps.counts actions t i) u.unmet.evaluates;
      past = u.unmet.past;
    }

    -- the log is full
    filled : IsUnmetAt seen_commits actions N now s.session s.fresh st refusal.Full → IsFull H W N s x version
    filled u = record {
      actions = actions;
      statement = u.asked;
      sees = sees_on;
      asks = resolves_on (Ok u.asked) u.resolves;
      full = let short = prefix_short now W g.log in let le = g.room in let all = u.unmet.full in omega (arith, short, le, all);
      makes_words = subst (λ (sch : Schema). 1 ≤ bound (count H actions) (widths_in sch.tables) (own_actions s) u.asked) (on.keeps.schemas actions)
          (makes_words_still (count seen_commits actions) (count H actions) (on.counts actions) (widths_in (schema seen_commits actions).tables) (own_actions s) u.asked (u.unmet.makes_words (own_actions s)));
    }

    -- no admitted valuation satisfies it
    inconsistent : (proof : Proof) → IsUnmetAt seen_commits actions N now s.session s.fresh st (refusal.Inconsistent proof) → IsInconsistent H W N s x version proof
    inconsistent proof u =
        let a = u.unmet.action in
        let after = actions ++ a ∷ [] in
        let place = place_within now class.Cond proof.root (root_place now proof u.unmet.accepted) in
        record {
          actions = actions;
          action = a;
          is = u.unmet.is;
          sees = sees_on;
          asks = resolves_on (Ok (plain.Act a)) (u.resolves ∙ ap Ok u.unmet.asserts);
          none_satisfies = λ v. sym (on.keeps.admitted v after) ∙ u.unmet.none_satisfies v;
          accepted = accepted_longer now W g.log proof.root proof.derivation u.unmet.accepted;
          root = λ v. ap (holds_at v) (condition_in_prefix now W proof.root g.log place) ∙ u.unmet.root v ∙ on.keeps.admitted v after;
        }

    unmet_lawful : (why : Refusal) → IsUnmetAt seen_commits actions N now s.session s.fresh st why
        → LawfulRefusal H W N s x (standing s.seen version why) why (carried (standing s.seen version why) s)
    unmet_lawful refusal.TooLarge u = (too_large u, refl)
    unmet_lawful refusal.Full u = (filled u, refl)
    unmet_lawful (refusal.Inconsistent proof) u = (inconsistent proof u, refl)
    unmet_lawful refusal.Memory u = (refl, refl)
    unmet_lawful _ u = absurd u.unmet

    -- a refusal is lawful
    pub refused_lawful : (why : Refusal) → IsRefused seen_commits actions N now s.session s.fresh st why
        → LawfulRefusal H W N s x (standing s.seen version why) why (carried (standing s.seen version why) s)
    refused_lawful why (by_name e n r) = name_lawful e n r
    refused_lawful why (unmet why' u) = unmet_lawful why' u
    refused_lawful why wanting_memory = (refl, refl)

    -- an answer to a query
    rows_lawful : (columns : List (List ℕ)) (query : PlainQuery) (answer : Answer) → resolved (schema seen_commits actions) s.session s.fresh st ≡ Ok (plain.Asks ask.Rows columns query)
        → IsAnswerFor seen_commits actions columns query answer → IsRows H W N s x version (length actions) answer (carried version (extended (plain.Asks ask.Rows columns query) s))
    rows_lawful columns query answer r o = subst (λ cs. IsRows H W N s x version (length actions) answer (carried version (extended (plain.Asks ask.Rows cs query) s))) o.named (record {
      actions = actions;
      query = query;
      sees = sees_on;
      asks = resolves_on (Ok (plain.Asks ask.Rows answer.columns query)) (r ∙ ap (λ cs. Ok (plain.Asks ask.Rows cs query)) (sym o.named));
      plus_is = refl;
      formed = o.formed;
      means = λ v. on.keeps.shown (allowed v answer) (shown v answer) query actions v (o.means v);
      in_pattern = subst (IsSublist (map (λ row. row.cells) answer.rows)) (on.keeps.patterns actions query) o.in_pattern;
      next_is = refl;
    })

    -- the possible rows of a query
    possible_lawful : (columns : List (List ℕ)) (query : PlainQuery) (list : List PossibleRow) → resolved (schema seen_commits actions) s.session s.fresh st ≡ Ok (plain.Asks ask.Possible columns query)
        → PossibleRight list query seen_commits actions → IsPossible H W N s x version (length actions) columns list (carried version (extended (plain.Asks ask.Possible columns query) s))
    possible_lawful columns query list r right = record {
      actions = actions;
      query = query;
      sees = sees_on;
      asks = resolves_on (Ok (plain.Asks ask.Possible columns query)) r;
      plus_is = refl;
      right = possible_kept query seen_commits (take version H) actions on.keeps list right;
      next_is = refl;
    }

    -- its certain tuples
    certain_lawful : (columns : List (List ℕ)) (query : PlainQuery) (list : List CertainRow) → resolved (schema seen_commits actions) s.session s.fresh st ≡ Ok (plain.Asks ask.Certain columns query)
        → CertainRight list query seen_commits actions now → IsCertain H W N s x version (length actions) columns list (carried version (extended (plain.Asks ask.Certain columns query) s))
    certain_lawful columns query list r right = record {
      actions = actions;
      query = query;
      sees = sees_on;
      asks = resolves_on (Ok (plain.Asks ask.Certain columns query)) r;
      plus_is = refl;
      right = certain_kept query seen_commits (take version H) actions on.keeps W list (certain_longer now W g.log query seen_commits actions list right);
      next_is = refl;
    }

    -- an answer is lawful
    pub answered_lawful : (k : Ask) (columns : List (List ℕ)) (query : PlainQuery) (given : Answered) → resolved (schema seen_commits actions) s.session s.fresh st ≡ Ok (plain.Asks k columns query)
        → IsAnswered seen_commits actions now k columns query given
        → LawfulReply H W N s x (reply_of version (length actions) given) (carried version (extended (plain.Asks k columns query) s))
    answered_lawful ask.Rows columns query (answered.Rows answer) r o = rows_lawful columns query answer r o
    answered_lawful ask.Possible columns query (answered.Possible named list) r o =
        subst (λ cs. IsPossible H W N s x version (length actions) named list (carried version (extended (plain.Asks ask.Possible cs query) s))) o.0
        (possible_lawful named query list (r ∙ ap (λ cs. Ok (plain.Asks ask.Possible cs query)) (sym o.0)) o.1)
    answered_lawful ask.Certain columns query (answered.Certain named list) r o =
        subst (λ cs. IsCertain H W N s x version (length actions) named list (carried version (extended (plain.Asks ask.Certain cs query) s))) o.0
        (certain_lawful named query list (r ∙ ap (λ cs. Ok (plain.Asks ask.Certain cs query)) (sym o.0)) o.1)
    answered_lawful _ columns query _ r o = absurd o

  -- the log is full where a refusal says so
  full_name : (e : ResolveError) (at : ℕ) → IsTrue (is_full (reply.Refused at (name_refusal e))) → ⊥
  full_name name.UnknownTable at e = false≢true e
  full_name _ at e = false≢true e

  full_unmet : (why : Refusal) → IsUnmetAt seen_commits actions N now s.session s.fresh st why → (at : ℕ) → IsTrue (is_full (reply.Refused at why)) → length now ≡ N
  full_unmet refusal.Full u at e = u.unmet.full
  full_unmet _ u at e = absurd (false≢true e)

  full_so : (why : Refusal) → IsRefused seen_commits actions N now s.session s.fresh st why → (at : ℕ) → IsTrue (is_full (reply.Refused at why)) → length now ≡ N
  full_so why (by_name err n r) at e = absurd (full_name err at e)
  full_so why (unmet why' u) at e = full_unmet why' u at e
  full_so why wanting_memory at e = absurd (false≢true e)

  -- it is no conflict
  later_name : (e : ResolveError) (next : SessionState) (words : List ℕ) (at : ℕ) → ConflictsLater N s next words now x (reply.Refused at (name_refusal e))
  later_name name.UnknownTable next words at = tt
  later_name _ next words at = tt

  later_unmet : (why : Refusal) → IsUnmetAt seen_commits actions N now s.session s.fresh st why → (next : SessionState) (words : List ℕ) (at : ℕ) → ConflictsLater N s next words now x (reply.Refused at why)
  later_unmet (refusal.Conflict table was now' at') u next words at = absurd u.unmet
  later_unmet _ u next words at = tt

  later_so : (why : Refusal) → IsRefused seen_commits actions N now s.session s.fresh st why → (next : SessionState) (words : List ℕ) (at : ℕ) → ConflictsLater N s next words now x (reply.Refused at why)
  later_so why (by_name err n r) next words at = later_name err next words at
  later_so why (unmet why' u) next words at = later_unmet why' u next words at
  later_so why wanting_memory next words at = tt

  later_answered : (given : Answered) (next : SessionState) (words : List ℕ) (at plus : ℕ) → ConflictsLater N s next words now x (reply_of at plus given)
  later_answered (answered.Rows answer) next words at plus = tt
  later_answered _ next words at plus = tt

  -- it has seen all commits of the words before, where none is open
  module _ (words : List ℕ) (p : Proceeds N s.session words now) (newest : s.transaction ≡ None → length (commits_of words) ≤ version) where
    refused_newest : (why : Refusal) → s.transaction ≡ None → IfSome (version_of (reply.Refused (standing s.seen version why) why)) (λ at. length (commits_of words) ≤ at)
    refused_newest refusal.NotAStatement none = tt
    refused_newest refusal.TooDeep none = tt
    refused_newest refusal.NumberRange none = tt
    refused_newest refusal.InTransaction none = tt
    refused_newest refusal.NoTransaction none = tt
    refused_newest refusal.Memory none = tt
    refused_newest _ none = newest none

    -- a statement that is refused is answered so
    pub refused_answers : (why : Refusal) → IsRefused seen_commits actions N now s.session s.fresh st why
        → Answers N s (carried (standing s.seen version why) s) words now x (reply.Refused (standing s.seen version why) why)
    refused_answers why r =
        answers_uncommitted N s (carried (standing s.seen version why) s) words now x (reply.Refused (standing s.seen version why) why) p refl refl (full_so why r (standing s.seen version why)) (refused_newest why)
        (λ none. later_so why r (carried (standing s.seen version why) s) words (standing s.seen version why))
        (λ W g H stands. refused_lawful W g H stands why r)

    -- a query is answered so
    pub answered_answers : (k : Ask) (columns : List (List ℕ)) (query : PlainQuery) (given : Answered) → resolved (schema seen_commits actions) s.session s.fresh st ≡ Ok (plain.Asks k columns query)
        → IsAnswered seen_commits actions now k columns query given
        → Answers N s (carried version (extended (plain.Asks k columns query) s)) words now x (reply_of version (length actions) given)
    answered_answers k columns query given r o =
        answers_uncommitted N s (carried version (extended (plain.Asks k columns query) s)) words now x (reply_of version (length actions) given) p
        (extended_session s.transaction (plain.Asks k columns query) s) (answered_uncommitted version (length actions) given) (λ e. absurd (answered_fits version (length actions) given e))
        (λ none. answered_at version (length actions) (length (commits_of words)) given (newest none)) (λ none. later_answered given (carried version (extended (plain.Asks k columns query) s)) words version (length actions))
        (λ W g H stands. answered_lawful W g H stands k columns query given r o)
