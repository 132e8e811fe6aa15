-- A statement outside a transaction, at the newest version: what was prepared for it, over further words, and its reply.
use Rattle.std.{proofs.Common.{◌≡◌, ℕ, ◌≤◌, List, [], length, refl, ap, sym, subst, ◌∙◌, arith}, specs.Prelude.None}
use Rattle.ct_word.{specs.Change.PlainCommit, specs.Reading.commits_of, proofs.Prefixes.prefix_of_prefix}
use Rattle.ct_arena.{specs.Counts.AreNumbered, specs.Seen.Seen}
use Rattle.ct_condition.specs.Writes.{kept_of}
use Rattle.ct_query.{specs.declared.action.Read.Read, specs.Schema.schema}
use Rattle.ct_resolve.specs.Statements.{resolved}
use Rattle.ct_table.specs.Snapshot.{commits_to}
use Rattle.ct_parse.specs.declared.tree.Statement.{Statement}
use Rattle.ct_transcript.{specs.declared.reply.Refusal.Refusal, specs.declared.reply.Reply.Reply}
use Rattle.ct_statement.{specs.declared.replying.Answered.Answered, specs.declared.sight.Sight.Sight, specs.Sight.{actions_before, history_of}}
use Rattle.ct_transaction.{specs.Answers.Answers, specs.Executes.Executes, specs.Seeing.Sees, specs.Prepared.{ForAnswer, IsPrepared, IsRefused}}
use Rattle.ct_transaction.{specs.Replying.{reply_of, standing}, specs.Sessions.state_of, specs.State.{SessionState, carried}}
use Rattle.ct_transaction.{specs.declared.preparing.Prepared.Prepared, proofs.Opened.{prepared_later, refused_later}, proofs.Ordered.state_same}
use Rattle.ct_transaction.proofs.Replies.{Proceeds, proceeds, prepared_answer, answered_answers, refused_answers}
use Rattle.ct_session.specs.Outcomes.{Begins}
use mathlib.Core.List.{IsPrefix}
use Rattle.ct_transcript.specs.declared.reply.Reply.TheVariants as reply
use Rattle.ct_transaction.specs.declared.preparing.Prepared.TheVariants as prepared

-- what was prepared at the sight, or why it was refused, over the words that came with it
module _ (begun now : Seen) (longer : IsPrefix begun.words now.words) (kept : kept_of now ≡ kept_of begun) (sight : Sight) (within : sight.version ≤ length (commits_of begun.words)) (none : actions_before sight ≡ [])
    (fresh : ℕ) (st : Statement) where
  pub prepared_on : (p : Prepared) (reads : List Read) → IsPrepared now.words (history_of begun.words sight) (actions_before sight) [] begun.session fresh sight st p reads
      → IsPrepared now.words (history_of now.words sight) (actions_before sight) [] now.session fresh sight st p reads
  prepared_on = prepared_later begun now longer kept sight within None none fresh st

  pub refused_on : (N : ℕ) (why : Refusal) → IsRefused (history_of begun.words sight) (actions_before sight) N now.words begun.session fresh st why
      → IsRefused (history_of now.words sight) [] N now.words now.session fresh st why
  refused_on N why i =
      subst (λ before. IsRefused (history_of now.words sight) before N now.words now.session fresh st why) none (refused_later begun now longer kept sight within None none fresh st N why i)

  pub answered_on : (given : Answered) (reads : List Read) → IsPrepared now.words (history_of begun.words sight) (actions_before sight) [] begun.session fresh sight st (prepared.Answer given) reads
      → ForAnswer now.words (history_of now.words sight) [] now.session fresh st given reads
  answered_on given reads i =
      subst (λ before. ForAnswer now.words (history_of now.words sight) before now.session fresh st given reads) none
      (prepared_answer now.words (history_of now.words sight) (actions_before sight) [] now.session fresh sight st given reads (prepared_on (prepared.Answer given) reads i))

-- a statement that went on to some words has gone on to further ones, and to a later version
pub begins_on : (first begun now : Seen) (version later : ℕ) → Begins first begun version → IsPrefix begun.words now.words → kept_of now ≡ kept_of begun → version ≤ later → Begins first now later
begins_on first begun now version later began longer kept le = record {
  longer = prefix_of_prefix first.words begun.words now.words began.longer longer;
  kept = kept ∙ began.kept;
  numbered = began.numbered;
  all = let all = began.all in omega (arith, all, le);
}

-- its reply, the words having gone on from its beginning
module _ (N : ℕ) (pass now : Seen) (seen fresh version : ℕ) (began : Begins pass now version) (room : length now.words ≤ N) (numbered : AreNumbered now.session now.mine now.words)
    (within : version ≤ length (commits_of now.words)) (seen_is : seen ≤ version) (st : Statement) where
  abbrev s : SessionState
  s = state_of pass seen fresh None

  sees : (H : List PlainCommit) → version ≤ length H → Sees H s version []
  sees H le = (seen_is, le, refl)

  p : Proceeds N pass.session pass.words now.words
  p = proceeds N pass now began.longer began.kept room began.numbered numbered

  of_session' : now.session ≡ pass.session
  of_session' = let kept = began.kept in cc

  pub refused_outside : (why : Refusal) → IsRefused (commits_to now.words version) [] N now.words now.session fresh st why
      → Executes N s (carried (standing seen version why) (state_of now seen fresh None)) pass.words now.words st (reply.Refused (standing seen version why) why)
  refused_outside why r = λ x reads.
      subst (λ t. Answers N s (carried (standing seen version why) t) pass.words now.words x (reply.Refused (standing seen version why) why)) (sym (state_same pass now seen fresh None None began.kept refl))
      (refused_answers N s x st reads now.words version [] within sees pass.words p (λ e. began.all) why
      (subst (λ n. IsRefused (commits_to now.words version) [] N now.words n fresh st why) of_session' r))

  pub answered_outside : (given : Answered) (more : List Read) → ForAnswer now.words (commits_to now.words version) [] now.session fresh st given more → (r : Reply) → r ≡ reply_of version 0 given
      → Executes N s (carried version (state_of now seen fresh None)) pass.words now.words st r
  answered_outside given more f r is = λ x reads.
      subst (λ q. Answers N s (carried version (state_of now seen fresh None)) pass.words now.words x q) (sym is)
      (subst (λ t. Answers N s (carried version t) pass.words now.words x (reply_of version 0 given)) (sym (state_same pass now seen fresh None None began.kept refl))
      (answered_answers N s x st reads now.words version [] within sees pass.words p (λ e. began.all) f.kind f.columns f.query given
      (ap (λ n. resolved (schema (commits_to now.words version) []) n fresh st) (sym of_session') ∙ f.resolves) f.answers))
