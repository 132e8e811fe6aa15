-- What a statement does, for each text that is read as it.
use Rattle.std.specs.Prelude.{ℕ, List}
use Rattle.ct_parse.specs.declared.tree.Statement.{Statement}
use Rattle.ct_transcript.specs.declared.reply.Reply.{Reply}
use Rattle.ct_transaction.specs.Answers.{Answers}
use Rattle.ct_transaction.specs.State.{SessionState}
use Rattle.ct_transaction.specs.Statements.{ReadsAs}

-- a statement leads a session from a state to the next, its words to further ones, and has this reply
abbrev pub Executes : ℕ → SessionState → SessionState → List ℕ → List ℕ → Statement → Reply → Type 0
Executes N s next words words' st r = (x : List ℕ) → ReadsAs x st → Answers N s next words words' x r
