-- What is wanting for a query or an action is wanting for its statement.
use Rattle.std.proofs.Common.{◌≡◌, ℕ, List, Some, refl}
use Rattle.ct_word.specs.Change.{PlainCommit}
use Rattle.ct_query.{specs.declared.action.Ask.Ask, specs.Plain.{PlainQuery, PlainAction}, specs.Patterns.count, specs.Schema.schema, specs.Size.size}
use Rattle.ct_transcript.specs.declared.reply.Refusal.{Refusal}
use Rattle.ct_statement.{specs.Asking.IsUnasked, specs.Making.widths_in, specs.Unmet.{IsWant, IsUnmet, asked_size}, proofs.Weights.{action_makes_words, question_makes_words}}
use Rattle.ct_query.specs.Plain as plain
use Rattle.ct_transcript.specs.declared.reply.Refusal.TheVariants as refusal

module _ (h : List PlainCommit) (before : List PlainAction) (room : ℕ) (words : List ℕ) where
  -- why a query is not evaluated is why a statement that asks it, whatever it asks of it, is refused
  pub unasked_unmet : (k : Ask) (columns : List (List ℕ)) (q : PlainQuery) (why : Refusal) → IsUnasked h before room words q why → IsUnmet h before room words (plain.Asks k columns q) why
  unasked_unmet k columns q refusal.TooLarge w = record { asked = size (count h before) q; evaluates = refl; past = w }
  unasked_unmet k columns q refusal.Full w = record { full = w.0; makes_words = λ own. question_makes_words (count h before) (widths_in (schema h before).tables) own k columns q w.1 }
  unasked_unmet k columns q refusal.Memory w = tt
  unasked_unmet k columns q _ w = absurd w

  -- and an action whose size is that of the query
  pub unasked_action : (a : PlainAction) (q : PlainQuery) → asked_size (count h before) (plain.Act a) ≡ Some (size (count h before) q)
      → (why : Refusal) → IsUnasked h before room words q why → IsUnmet h before room words (plain.Act a) why
  unasked_action a q same refusal.TooLarge w = record { asked = size (count h before) q; evaluates = same; past = w }
  unasked_action a q same refusal.Full w = record { full = w.0; makes_words = λ own. action_makes_words (count h before) (widths_in (schema h before).tables) own a }
  unasked_action a q same refusal.Memory w = tt
  unasked_action a q same _ w = absurd w

  -- want of room or memory for any action
  pub want_unmet : (a : PlainAction) (why : Refusal) → IsWant room words why → IsUnmet h before room words (plain.Act a) why
  want_unmet a refusal.Full w = record { full = w; makes_words = λ own. action_makes_words (count h before) (widths_in (schema h before).tables) own a }
  want_unmet a refusal.Memory w = tt
  want_unmet a _ w = absurd w
