-- A statement that is refused for a name or a count that does not fit makes no word: which replies are no such refusal, and
-- that in a transaction, and to BEGIN, COMMIT and ROLLBACK, none of what resolves is.
use Rattle.std.proofs.Common.{◌≡◌, ◌⊎◌, ℕ, Bool, true, false, List, take, refl, sym, subst, inl, inr, ◌∙◌}
use Rattle.std.{specs.Prelude.{Option, Some, None, Result, Ok, Err, IsNone, option_map}, proofs.lemmas.Bool.false≢true}
use Rattle.ct_word.specs.Change.{PlainCommit}
use Rattle.ct_query.{specs.declared.schema.Schema.Schema, specs.Plain.{PlainAction, PlainStatement}, specs.Schema.schema}
use Rattle.ct_keeper.{specs.declared.catalogue.Outcome.Outcome, specs.declared.error.KeeperError.KeeperError}
use Rattle.ct_parse.specs.declared.tree.Statement.{Statement}
use Rattle.ct_resolve.{specs.declared.error.ResolveError.ResolveError, specs.Found.Found, specs.Statements.resolved}
use Rattle.ct_statement.{specs.declared.replying.Answered.Answered, specs.Unmet.{IsUnmet, IsWant}}
use Rattle.ct_transcript.{specs.declared.reply.Reply.Reply, specs.declared.reply.Refusal.Refusal}
use Rattle.ct_transaction.{specs.Answers.{is_full, is_of_name, is_unasked}, specs.LawfulRefusal.IsNameFault, specs.LawfulReply.LawfulReply}
use Rattle.ct_transaction.{specs.Outcomes.outcome_reply, specs.Prepared.IsNoOrder, specs.Replying.reply_of, specs.Seeing.SeesIn, specs.Sessions.transaction_of}
use Rattle.ct_transaction.{specs.State.{SessionState, Transaction}, specs.Statements.ReadsAs, specs.declared.state.Open.Open, proofs.OneText.one_reading}
use Rattle.ct_keeper.specs.declared.error.KeeperError.TheVariants as fault
use Rattle.ct_keeper.specs.declared.catalogue.Outcome.TheVariants as outcome
use Rattle.ct_parse.specs.declared.tree.Statement.TheVariants as statement
use Rattle.ct_resolve.specs.declared.error.ResolveError.TheVariants as name
use Rattle.ct_statement.specs.declared.replying.Answered.TheVariants as answered
use Rattle.ct_transcript.specs.declared.reply.Reply.TheVariants as reply
use Rattle.ct_transcript.specs.declared.reply.Refusal.TheVariants as refusal

-- what is wanting is no name
pub unmet_unnamed : (h : List PlainCommit) (before : List PlainAction) (room : ℕ) (words : List ℕ) (st : PlainStatement) (why : Refusal) → IsUnmet h before room words st why → is_of_name why ≡ false
unmet_unnamed h before room words st refusal.UnknownTable f = absurd f
unmet_unnamed h before room words st refusal.TableExists f = absurd f
unmet_unnamed h before room words st refusal.UnknownColumn f = absurd f
unmet_unnamed h before room words st refusal.AmbiguousColumn f = absurd f
unmet_unnamed h before room words st refusal.DuplicateName f = absurd f
unmet_unnamed h before room words st refusal.ColumnCount f = absurd f
unmet_unnamed h before room words st _ f = refl

pub want_unnamed : (room : ℕ) (words : List ℕ) (why : Refusal) → IsWant room words why → is_of_name why ≡ false
want_unnamed room words refusal.UnknownTable f = absurd f
want_unnamed room words refusal.TableExists f = absurd f
want_unnamed room words refusal.UnknownColumn f = absurd f
want_unnamed room words refusal.AmbiguousColumn f = absurd f
want_unnamed room words refusal.DuplicateName f = absurd f
want_unnamed room words refusal.ColumnCount f = absurd f
want_unnamed room words _ f = refl

-- an answer, and a reply to an offer, are no such refusal
pub answered_asked : (at plus : ℕ) (a : Answered) → is_unasked (reply_of at plus a) ≡ false
answered_asked at plus (answered.Rows answer) = refl
answered_asked at plus _ = refl

pub outcome_asked : (seen base : ℕ) (r : Result Outcome KeeperError) → is_unasked (outcome_reply seen base r) ≡ false
outcome_asked seen base (Ok (outcome.Committed m)) = refl
outcome_asked seen base (Ok outcome.Nothing) = refl
outcome_asked seen base (Ok (outcome.Conflict table was now at)) = refl
outcome_asked seen base (Err fault.Full) = refl
outcome_asked seen base (Err fault.Memory) = refl

-- such a refusal finds no full log
pub unasked_room : (r : Reply) → is_unasked r ≡ true → is_full r ≡ false
unasked_room (reply.Refused at refusal.Full) is = absurd (false≢true is)
unasked_room _ is = refl

pub never_both : {A : Type 0} (b : Bool) → b ≡ false → b ≡ true → A
never_both b e is = absurd (false≢true (sym e ∙ is))

-- a session without an open transaction is in none
pub closed : (o : Option Open) → option_map transaction_of o ≡ None → IsNone o
closed None e = refl
closed (Some o) e = cc

-- BEGIN, COMMIT and ROLLBACK name nothing
order_found : (st : Statement) → IsNoOrder st ⊎ ((sch : Schema) (session fresh : ℕ) (e : ResolveError) → resolved sch session fresh st ≡ Err e → ⊥)
order_found statement.Begin = inr (λ sch session fresh e p. cc)
order_found statement.Commit = inr (λ sch session fresh e p. cc)
order_found statement.Rollback = inr (λ sch session fresh e p. cc)
order_found _ = inl tt

module _ (H : List PlainCommit) (W : List ℕ) (N : ℕ) where
  -- the cause of such a refusal
  name_fault : (s next : SessionState) (x : List ℕ) (r : Reply) → LawfulReply H W N s x r next → is_unasked r ≡ true → (at : ℕ) × (e : ResolveError) × IsNameFault H W N s x at e
  name_fault s next x (reply.Refused at refusal.UnknownTable) l is = (at, name.UnknownTable, l.0)
  name_fault s next x (reply.Refused at refusal.TableExists) l is = (at, name.TableExists, l.0)
  name_fault s next x (reply.Refused at refusal.UnknownColumn) l is = (at, name.UnknownColumn, l.0)
  name_fault s next x (reply.Refused at refusal.AmbiguousColumn) l is = (at, name.AmbiguousColumn, l.0)
  name_fault s next x (reply.Refused at refusal.DuplicateName) l is = (at, name.DuplicateName, l.0)
  name_fault s next x (reply.Refused at refusal.ColumnCount) l is = (at, name.ColumnCount, l.0)
  name_fault s next x _ l is = absurd (false≢true is)

  module _ (s : SessionState) (x : List ℕ) (st : Statement) (reads : ReadsAs x st) where
    -- what a transaction sees is one place, and a statement is found or refused there
    inside_never : (t : Transaction) (at at' : ℕ) (own own' : List PlainAction) → SeesIn H (Some t) s at own → SeesIn H (Some t) s at' own' → (e : ResolveError) (asked : PlainStatement)
        → resolved (schema (take at H) own) s.session s.fresh st ≡ Err e → resolved (schema (take at' H) own') s.session s.fresh st ≡ Ok asked → ⊥
    inside_never t at at' own own' a b e asked f g =
        let there = subst (λ n. resolved (schema (take n H) own) s.session s.fresh st ≡ Ok asked) (b.0 ∙ sym a.0)
        (subst (λ os. resolved (schema (take at' H) os) s.session s.fresh st ≡ Ok asked) (b.1 ∙ sym a.1) g) in
        let both : ◌≡◌ {A = Found PlainStatement} (Err e) (Ok asked) = sym f ∙ there in cc

    -- a statement that is found at what it sees, and refused for a name, is none of a transaction and no order
    pub found_refused : (next : SessionState) (r : Reply) → LawfulReply H W N s x r next → is_unasked r ≡ true → (at : ℕ) (own : List PlainAction) (asked : PlainStatement)
        → SeesIn H s.transaction s at own → resolved (schema (take at H) own) s.session s.fresh st ≡ Ok asked → (s.transaction ≡ None) × IsNoOrder st
    found_refused next r lawful is at own asked sees found = by_fault (name_fault s next x r lawful is) where
      by_fault : (at : ℕ) × (e : ResolveError) × IsNameFault H W N s x at e → (s.transaction ≡ None) × IsNoOrder st
      by_fault (v, e, f) = by_transaction s.transaction refl (order_found st) where
        given : resolved (schema (take v H) f.actions) s.session s.fresh st ≡ Err e
        given = subst (λ t. resolved (schema (take v H) f.actions) s.session s.fresh t ≡ Err e) (one_reading x f.found.statement st f.found.reads reads) f.found.gives

        by_transaction : (t : Option Transaction) → s.transaction ≡ t → IsNoOrder st ⊎ ((sch : Schema) (session fresh : ℕ) (e : ResolveError) → resolved sch session fresh st ≡ Err e → ⊥)
            → (s.transaction ≡ None) × IsNoOrder st
        by_transaction t is (inr never) = absurd (never (schema (take v H) f.actions) s.session s.fresh e given)
        by_transaction None is (inl plain) = (is, plain)
        by_transaction (Some t) is (inl plain) =
            absurd (inside_never t v at f.actions own (subst (λ o. SeesIn H o s v f.actions) is f.sees) (subst (λ o. SeesIn H o s at own) is sees) e asked given found)
