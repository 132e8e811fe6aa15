-- What is answered to an offer, and what is left of its transaction, by what became of it.
use Rattle.std.specs.Prelude.{ℕ, Option, Some, None, Result, Ok, Err}
use Rattle.ct_keeper.specs.declared.catalogue.Outcome.{Outcome}
use Rattle.ct_keeper.specs.declared.catalogue.Outcome.TheVariants as outcome
use Rattle.ct_keeper.specs.declared.error.KeeperError.{KeeperError}
use Rattle.ct_keeper.specs.declared.error.KeeperError.TheVariants as fault
use Rattle.ct_transcript.specs.declared.reply.Reply.{Reply}
use Rattle.ct_transcript.specs.declared.reply.Reply.TheVariants as reply
use Rattle.ct_transcript.specs.declared.reply.Refusal.TheVariants as refusal
use Rattle.ct_transaction.specs.declared.state.Open.{Open}

-- the transaction after its offer: it stays where something is wanting
abbrev pub open_after : Open → Result Outcome KeeperError → Option Open
open_after o (Ok out) = None
open_after o (Err e) = Some o

-- the reply to an offer with this base, by a session that had seen a version
abbrev pub outcome_reply : ℕ → ℕ → Result Outcome KeeperError → Reply
outcome_reply seen base (Ok (outcome.Committed m)) = reply.Committed m
outcome_reply seen base (Ok outcome.Nothing) = reply.Nothing base
outcome_reply seen base (Ok (outcome.Conflict table was now at)) = reply.Refused at (refusal.Conflict table was now at)
outcome_reply seen base (Err fault.Full) = reply.Refused base refusal.Full
outcome_reply seen base (Err fault.Memory) = reply.Refused seen refusal.Memory

-- the version that this reply carries
abbrev pub outcome_version : ℕ → ℕ → Result Outcome KeeperError → ℕ
outcome_version seen base (Ok (outcome.Committed m)) = m
outcome_version seen base (Ok outcome.Nothing) = base
outcome_version seen base (Ok (outcome.Conflict table was now at)) = at
outcome_version seen base (Err fault.Full) = base
outcome_version seen base (Err fault.Memory) = seen
