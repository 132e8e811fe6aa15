-- A conditional table as it is printed: an answer under a global condition.
use Rattle.std.specs.Prelude.{◌≡◌, ℕ, List, [], ◌∷◌, map}
use Rattle.ct_word.specs.declared.values.CRow.{CRow}
use Rattle.ct_word.specs.Value.{World}
use Rattle.ct_word.specs.Condition.{holds_at}
use Rattle.ct_word.specs.Reading.{term_at, condition_at}
use Rattle.ct_rewrite.specs.declared.answer.AnswerRow.{AnswerRow}
use Rattle.ct_operators.specs.Tables.{cells_of, value_of_rows}
use Rattle.ct_transcript.specs.declared.reply.Answer.{Answer}
use Rattle.ct_transcript.specs.Means.{allowed, shown, IsAnswer}

-- the terms of a row's cells under the condition at a position
abbrev pub printed_row : List ℕ → CRow → ℕ → AnswerRow
printed_row words r k = record { cells = map (term_at words) r.cells; cond = k }

-- each row under the condition at its position
abbrev pub printed_rows : List ℕ → List CRow → List ℕ → List AnswerRow
printed_rows words [] ks = []
printed_rows words (r ∷ rs) [] = []
printed_rows words (r ∷ rs) (k ∷ ks) = printed_row words r k ∷ printed_rows words rs ks

-- an answer prints rows of places under a global condition: it is allowed where that holds, and shows what they are worth
pub record IsPrinted (words : List ℕ) (columns : List (List ℕ)) (global : ℕ) (rows : List CRow) (answer : Answer) : Type 0 where
  pub named : answer.columns ≡ columns
  pub formed : IsAnswer answer
  pub where_holds : (v : World) → allowed v answer ≡ holds_at v (condition_at words global)
  pub tuples : (v : World) → shown v answer ≡ value_of_rows words v rows
  pub cells : map (λ r. r.cells) answer.rows ≡ cells_of words rows
