-- A text that is read as no statement is refused so, however the words go on.
use Rattle.std.{proofs.Common.{◌≢◌, ℕ, List, refl, sym}, proofs.lemmas.Bool.false≢true}
use Rattle.ct_transcript.specs.declared.reply.Refusal.{Refusal}
use Rattle.ct_transaction.{specs.Answers.Answers, specs.State.SessionState, proofs.Replies.{Proceeds, answers_uncommitted, carried_same, memory_answers}}
use Rattle.ct_transaction.specs.Statements.{IsTextFault, number_range, open_text, stray_byte, too_deep, unspelled}
use Rattle.ct_transcript.specs.declared.reply.Reply.TheVariants as reply
use Rattle.ct_transcript.specs.declared.reply.Refusal.TheVariants as refusal

module _ (N : ℕ) (s : SessionState) (words x : List ℕ) (p : Proceeds N s.session words words) where
  abbrev Refuses : Refusal → Type 0
  Refuses why = Answers N s s words words x (reply.Refused s.seen why)

  not_read : IsTextFault x refusal.NotAStatement → Refuses refusal.NotAStatement
  not_read f =
      answers_uncommitted N s s words words x (reply.Refused s.seen refusal.NotAStatement) p refl refl (λ e. absurd (false≢true e)) (λ none. tt) (λ none. tt)
      (λ W g H stands. (record { found = f; at_is = refl }, sym (carried_same s)))

  text_refused : (why : Refusal) → IsTextFault x why → Refuses why
  text_refused why (number_range f) =
      answers_uncommitted N s s words words x (reply.Refused s.seen refusal.NumberRange) p refl refl (λ e. absurd (false≢true e)) (λ none. tt) (λ none. tt)
      (λ W g H stands. (record { found = number_range f; at_is = refl }, sym (carried_same s)))
  text_refused why (open_text f) = not_read (open_text f)
  text_refused why (stray_byte f) = not_read (stray_byte f)
  text_refused why (too_deep f) =
      answers_uncommitted N s s words words x (reply.Refused s.seen refusal.TooDeep) p refl refl (λ e. absurd (false≢true e)) (λ none. tt) (λ none. tt)
      (λ W g H stands. (record { found = too_deep f; at_is = refl }, sym (carried_same s)))
  text_refused why (unspelled f) = not_read (unspelled f)

  pub unread_answers : (why : Refusal) → (why ≢ refusal.Memory → IsTextFault x why) → Answers N s s words words x (reply.Refused s.seen why)
  unread_answers refusal.Memory f = memory_answers N s words words x p
  unread_answers why f = text_refused why (f (λ e. cc))
