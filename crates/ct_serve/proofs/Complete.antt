-- A statement within all limits is answered.
use Rattle.std.{proofs.Common.{◌≡◌, ℕ, ◌+◌, ◌≤◌, List, [], ◌∷◌, ◌++◌, take, refl, sym, subst, ◌∙◌, ◌<◌, arith, inl, inr}, proofs.lemmas.Bool.false≢true}
use Rattle.std.{specs.Prelude.{All, Option, Some, None, IsSome, ◌⊎◌, filter_map}, proofs.lemmas.Option.none-some}
use Rattle.std.proofs.lemmas.List.Elements.{All-head, All-tail}
use Rattle.ct_word.specs.Change.{PlainCommit}
use Rattle.ct_query.{specs.Plain.PlainAction, specs.declared.action.Read.Read, specs.Reads.last}
use Rattle.ct_rewrite.specs.History.{plain_history}
use Rattle.ct_transcript.{specs.declared.reply.Reply.Reply, specs.declared.reply.Refusal.Refusal, specs.declared.reply.SessionLog.SessionLog}
use Rattle.ct_transcript.specs.declared.transcript.Transcript.{Transcript}
use Rattle.ct_resolve.specs.declared.error.ResolveError.{ResolveError}
use Rattle.ct_transaction.{specs.Answers.committed_of, specs.Seeing.Sees, specs.State.{Transaction, SessionState, carried}, specs.LawfulReply.LawfulReply}
use Rattle.ct_transaction.specs.LawfulRefusal.{IsNameFault, IsFirstWritten, CommitsWhole, CommitsAlone, IsConflict, LawfulRefusal}
use Rattle.ct_serve.{specs.Sessions.{AreLawful, AreLawfulSessions}, specs.Lawful.Lawful}
use Rattle.ct_serve.specs.Complete.{IsAnswered, IsCurrent, IsWithinLimitsWhere, IsWithinLimits, HasCause, AreComplete, AreCompleteSessions, IsComplete}
use Rattle.ct_serve.proofs.Between.{ground, ground_inside, ground_outside, IsAmidst, amidst_next, amidst_first, steps, later_commits, seen_current, conflict_current}
use Rattle.ct_transcript.specs.declared.reply.Reply.TheVariants as reply
use Rattle.ct_transcript.specs.declared.reply.Refusal.TheVariants as refusal

none_open : (t : Option Transaction) → IsSome t → t ≡ None → ⊥
none_open None some e = false≢true some
none_open (Some t) some e = none-some t (sym e)

-- what holds of all items holds of one among them
pub of_one : {X : Type 0} (P : X → Type 0) (before after : List X) (x : X) → All P (before ++ x ∷ after) → P x
of_one P [] after x all = All-head P x after all
of_one P (b ∷ before) after x all = of_one P before after x (All-tail P b (before ++ x ∷ after) all)

module _ (H : List PlainCommit) (W : List ℕ) (N : ℕ) where
  not_written : (reads : List Read) (base at : ℕ) (table : Read) → IsFirstWritten H W N reads base at table → All (λ r. last (take at H) r ≤ base) reads → ⊥
  not_written reads base at table f all =
      let le : last (take at H) table ≤ base = of_one (λ r. last (take at H) r ≤ base) f.before f.after table (subst (All (λ r. last (take at H) r ≤ base)) f.place all) in
      let lt = f.written in absurd (omega (arith, le, lt))

  -- a refusal of a statement that is within all limits at some versions, among them that which it carries where the
  -- statement saw it, and where it met a commit after its base
  module _ (At : ℕ → Type 0) (s next : SessionState) (x : List ℕ) (at : ℕ) (w : IsWithinLimitsWhere H W N At s x) (saw : (actions : List PlainAction) → next ≡ carried at s → Sees H s at actions → At at)
      (met : (table : Read) (was now : ℕ) → IsConflict H W N s x table was now at next → At at) where
    no_fault : (e : ResolveError) → next ≡ carried at s → IsNameFault H W N s x at e → ⊥
    no_fault e keeps f = w.named at f.actions e (saw f.actions keeps f.sees) f.sees f.found

    of_memory : (why : Refusal) → LawfulRefusal H W N s x at why next → why ≡ refusal.Memory
    of_memory refusal.NotAStatement l = absurd (w.read refusal.NotAStatement l.0.found)
    of_memory refusal.TooDeep l = absurd (w.read refusal.TooDeep l.0.found)
    of_memory refusal.NumberRange l = absurd (w.read refusal.NumberRange l.0.found)
    of_memory refusal.InTransaction l = absurd (none_open s.transaction l.0.is_open (w.begins_outside l.0.asks))
    of_memory refusal.NoTransaction l = absurd (none_open s.transaction (w.ends_inside l.0.statement l.0.ends l.0.asks) l.0.none_open)
    of_memory refusal.TooLarge l =
        let le = w.small at l.0.actions l.0.statement l.0.asked (saw l.0.actions l.1 l.0.sees) l.0.sees l.0.asks l.0.evaluates in
        let lt = l.0.past in absurd (omega (arith, le, lt))
    of_memory refusal.Full l = let lt = w.room in let e = l.0.full in absurd (omega (arith, lt, e))
    of_memory (refusal.Inconsistent proof) l =
        let v = w.satisfied at l.0.actions l.0.action (saw l.0.actions l.1 l.0.sees) l.0.sees l.0.asks l.0.is in
        absurd (false≢true (sym (l.0.none_satisfies v.0) ∙ v.1))
    of_memory (refusal.Conflict table was now at') l =
        let c = l.1 in
        absurd (not_written c.reads c.base at table c.first (w.unwritten c.base at c.reads (met table was now c) c.commits c.within))
    of_memory refusal.Memory l = refl
    of_memory _ l = absurd (no_fault _ l.1 l.0)

  module _ (s next : SessionState) (x : List ℕ) (r : Reply) (rs : List Reply) (a : IsAmidst H s (r ∷ rs)) (later : All (λ m. ground next < m) (filter_map committed_of rs)) (w : IsWithinLimits H W N s x) where
    base_of : (base : ℕ) (reads : List Read) → CommitsWhole H W N s x base reads ⊎ CommitsAlone H W N s x base reads → ground s ≤ base
    base_of base reads (inl c) = let is = ground_inside s c.transaction c.is_open in let e = c.base_is in omega (arith, is, e)
    base_of base reads (inr c) = let is = ground_outside s c.none_open in let le = c.from_seen in omega (arith, is, le)

    refused : (at : ℕ) (why : Refusal) → committed_of r ≡ None → LawfulRefusal H W N s x at why next → why ≡ refusal.Memory
    refused at why none l =
        of_memory (IsCurrent H s) s next x at w (λ actions. seen_current H s next r rs at actions a none later)
        (λ table was now c. conflict_current H s next r rs c.base at a none later c.next_is (base_of c.base c.reads c.commits) c.later) why l

  has_cause : (s next : SessionState) (x : List ℕ) (r : Reply) → LawfulReply H W N s x r next → HasCause H W N s x r
  has_cause s next x (reply.Refused at why) l = λ w. of_memory (λ v. v ≡ at) s next x at w (λ actions keeps sees. refl) (λ table was now c. refl) why l
  has_cause s next x _ l = tt

  answered : (s next : SessionState) (x : List ℕ) (r : Reply) (rs : List Reply) → IsAmidst H s (r ∷ rs) → All (λ m. ground next < m) (filter_map committed_of rs) → IsWithinLimits H W N s x
      → LawfulReply H W N s x r next → IsAnswered r
  answered s next x (reply.Refused at why) rs a later w l = refused s next x (reply.Refused at why) rs a later w at why refl l
  answered s next x _ rs a later w l = tt

  complete : (s t : SessionState) (xs : List (List ℕ)) (rs : List Reply) → IsAmidst H s rs → AreLawful H W N s xs rs t → AreComplete H W N s xs rs t
  complete s t [] [] a l = l
  complete s t (x ∷ xs) (r ∷ rs) a l =
      let st = steps H W N s l.0 x a.within r l.1 in
      let later = later_commits H W N l.0 t xs rs st.within l.2 in
      (l.0, l.1, (λ w. answered s l.0 x r rs a later w l.1), has_cause s l.0 x r l.1, complete l.0 t xs rs (amidst_next H s l.0 r rs a st) l.2)
  complete s t [] (r ∷ rs) a l = absurd l
  complete s t (x ∷ xs) [] a l = absurd l

  all_complete : (s : ℕ) (logs : List SessionLog) → AreLawfulSessions H W N s logs → AreCompleteSessions H W N s logs
  all_complete s [] l = tt
  all_complete s (log ∷ logs) l = ((l.0.last, complete _ l.0.last _ log.replies (amidst_first H s log.replies l.0.commits) l.0.replies), all_complete (s + 1) logs l.1)

-- the replies of a lawful transcript are complete
pub lawful_complete : (t : Transcript) (N : ℕ) → Lawful t N → IsComplete t N
lawful_complete t N l = all_complete (plain_history t.history) t.words N 1 t.sessions l.sessions
