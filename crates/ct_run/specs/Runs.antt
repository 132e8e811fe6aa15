-- What a run does.
use Rattle.std.specs.Prelude.{◌≡◌, ℕ, ◌⊎◌, Bool, true, false, List, [], length, map, Option, ⊤}
use Rattle.ct_outside.specs.Outside.{Held, Rose, Added, Called}
use Rattle.ct_outside.specs.Writes.{joined, FailedAtCall}
use Rattle.ct_transcript.specs.declared.reply.Reply.{Reply}
use Rattle.ct_transcript.specs.declared.reply.Reply.TheVariants as reply
use Rattle.ct_transcript.specs.declared.reply.Refusal.TheVariants as refusal
use Rattle.ct_transcript.specs.declared.reply.SessionLog.{SessionLog}
use Rattle.ct_transcript.specs.declared.transcript.Transcript.{Transcript}
use Rattle.ct_transcript.specs.Text.{lines_of}
use Rattle.ct_run.specs.declared.ending.Status.{Status}
use Rattle.ct_run.specs.declared.ending.Status.TheVariants as status
use Rattle.ct_run.specs.declared.printing.Sought.{Sought}
use Rattle.ct_run.specs.declared.printing.Sought.TheVariants as sought
use Rattle.ct_serve.specs.Sessions.{some_reply}
use Rattle.ct_serve.specs.Lawful.{Lawful}
use Rattle.ct_serve.specs.Within.{IsWithin}
use Rattle.ct_run.specs.Scripts.{AreScriptsOf, IsUnread, IsNoScript}

-- the transcript without sessions, commits and words
abbrev pub empty_transcript : Transcript
empty_transcript = record { sessions = []; history = []; words = [] }

-- whether a reply is a refusal, and whether it is want of memory
abbrev pub is_refusal : Reply → Bool
is_refusal (reply.Refused at why) = true
is_refusal _ = false

abbrev pub is_memory : Reply → Bool
is_memory (reply.Refused at refusal.Memory) = true
is_memory _ = false

-- whether a reply is what is looked for
abbrev pub is_sought : Sought → Reply → Bool
is_sought sought.Refusal = is_refusal
is_sought sought.Memory = is_memory

-- what the replies of all sessions say of the end of a run whose lines were written
abbrev pub IsOutcome : List SessionLog → Status → Type 0
IsOutcome logs status.Done = some_reply is_refusal logs ≡ false
IsOutcome logs status.Refused = (some_reply is_refusal logs ≡ true) × (some_reply is_memory logs ≡ false)
IsOutcome logs status.Memory = some_reply is_memory logs ≡ true
IsOutcome logs status.Words = ⊥
IsOutcome logs status.ReadFault = ⊥
IsOutcome logs status.WriteFault = ⊥
IsOutcome logs status.Script = ⊥

-- what the source told before the call of the bytes that it holds, and before and after it of its failures and of the
-- names that it was asked
pub record Asking : Type 0 where
  pub held : Option Held
  pub faults : ℕ
  pub faults' : ℕ
  pub asked : Option (List (List ℕ))
  pub asked' : Option (List (List ℕ))

-- what the sink told before and after the call of its failures, of its bytes and of its calls
pub record Taking : Type 0 where
  pub faults : ℕ
  pub faults' : ℕ
  pub taken : Option (List ℕ)
  pub taken' : Option (List ℕ)
  pub calls : Option ℕ
  pub calls' : Option ℕ

-- a lawful transcript, whose words are within the bounds of its statements, with a session for each file, whose script is
-- what the source tells under the file's name; each file was asked once, in their order
pub record IsServed (N : ℕ) (files : List (List ℕ)) (a : Asking) (t : Transcript) : Type 0 where
  pub lawful : Lawful t N
  pub within : IsWithin t N
  pub scripts : AreScriptsOf a.held files (map (λ s. s.script) t.sessions)
  pub asked_all : Added a.asked a.asked' files

-- exactly these lines were added, one call a line
pub record IsWritten (k : Taking) (lines : List (List ℕ)) : Type 0 where
  pub whole : Added k.taken k.taken' (joined lines)
  pub called : Called k.calls k.calls' (length lines)

-- a call failed, which the sink counted: the lines before its own were added, and a prefix of its own
pub record IsWriteFault (k : Taking) (lines : List (List ℕ)) : Type 0 where
  pub rose : Rose k.faults k.faults'
  pub call : ℕ
  pub failed : FailedAtCall k.taken k.taken' lines call
  pub called : Called k.calls k.calls' call

-- nothing was added, and no call was made
pub record IsUntouched (k : Taking) : Type 0 where
  pub nothing : Added k.taken k.taken' []
  pub called : Called k.calls k.calls' 0

-- all lines were written, and some reply is want of memory; or nothing was, for want of memory
pub data IsCutShort (k : Taking) (lines : List (List ℕ)) (logs : List SessionLog) : Type 0 where
  in_reply : IsWritten k lines → some_reply is_memory logs ≡ true → IsCutShort k lines logs
  in_lines : IsUntouched k → IsCutShort k lines logs

-- how the lines of these sessions were printed
abbrev pub Printed : Taking → List (List ℕ) → List SessionLog → Status → Type 0
Printed k lines logs status.Done = IsWritten k lines × IsOutcome logs status.Done
Printed k lines logs status.Refused = IsWritten k lines × IsOutcome logs status.Refused
Printed k lines logs status.Memory = IsCutShort k lines logs
Printed k lines logs status.WriteFault = IsWriteFault k lines
Printed k lines logs status.Words = ⊥
Printed k lines logs status.ReadFault = ⊥
Printed k lines logs status.Script = ⊥

-- how the lines of a transcript were printed
abbrev pub PrintedWhole : Taking → Transcript → Status → Type 0
PrintedWhole k t = Printed k (lines_of t.sessions t.history) t.sessions

-- nothing was done: the transcript is empty, and the sink untouched
pub record IsNothingDone (k : Taking) (t : Transcript) : Type 0 where
  pub empty : t ≡ empty_transcript
  pub untouched : IsUntouched k

-- what was done for files on a log of N words
abbrev pub RunPromise : ℕ → List (List ℕ) → Asking → Taking → Status → Transcript → Type 0
RunPromise N files a k status.Done t = IsServed N files a t × PrintedWhole k t status.Done
RunPromise N files a k status.Refused t = IsServed N files a t × PrintedWhole k t status.Refused
RunPromise N files a k status.WriteFault t = IsServed N files a t × PrintedWhole k t status.WriteFault
RunPromise N files a k status.Memory t = IsNothingDone k t ⊎ (IsServed N files a t × PrintedWhole k t status.Memory)
RunPromise N files a k status.ReadFault t = IsNothingDone k t × IsUnread a.held a.asked a.asked' files × Rose a.faults a.faults'
RunPromise N files a k status.Script t = IsNothingDone k t × IsNoScript a.held a.asked a.asked' files
RunPromise N files a k status.Words t = ⊥

-- a status that comes where all was served: with the whole text, or for want of memory
abbrev pub IsServedEnd : Status → Type 0
IsServedEnd status.Done = ⊤
IsServedEnd status.Refused = ⊤
IsServedEnd status.Memory = ⊤
IsServedEnd _ = ⊥
