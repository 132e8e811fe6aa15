-- Replies that give an answer, and where a refusal stands.
use Rattle.std.specs.Prelude.{ℕ}
use Rattle.ct_statement.specs.declared.replying.Answered.{Answered}
use Rattle.ct_statement.specs.declared.replying.Answered.TheVariants as answered
use Rattle.ct_transcript.specs.declared.reply.Reply.{Reply}
use Rattle.ct_transcript.specs.declared.reply.Reply.TheVariants as reply
use Rattle.ct_transcript.specs.declared.reply.Refusal.{Refusal}
use Rattle.ct_transcript.specs.declared.reply.Refusal.TheVariants as refusal

-- the reply that gives an answer, at a version and after so many actions
abbrev pub reply_of : ℕ → ℕ → Answered → Reply
reply_of at plus (answered.Rows answer) = reply.Rows at plus answer
reply_of at plus (answered.Possible columns list) = reply.Possible at plus columns list
reply_of at plus (answered.Certain columns list) = reply.Certain at plus columns list

-- the version that a refusal stands at: the one that the statement saw, but for want of memory the one that was seen before
abbrev pub standing : ℕ → ℕ → Refusal → ℕ
standing seen version refusal.Memory = seen
standing seen version _ = version
