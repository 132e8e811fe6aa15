-- What a session has done so far: its replies are lawful, however the log goes on.
use Rattle.std.specs.Prelude.{◌≡◌, ◌≤◌, ◌+◌, ◌<◌, ◌^◌, ℕ, List, [], ◌++◌, length, filter_map, true, Option, Some, None, IfSome}
use Rattle.std.specs.List.{list_any}
use mathlib.Core.List.{IsPrefix}
use Rattle.ct_word.specs.Reading.{commits_of}
use Rattle.ct_word.specs.Change.{PlainCommit}
use Rattle.ct_word.specs.StandsFor.{StandsFor}
use Rattle.ct_lex.specs.Texts.{texts}
use Rattle.ct_transcript.specs.declared.reply.Reply.{Reply}
use Rattle.ct_transcript.specs.declared.reply.SessionLog.{SessionLog}
use Rattle.ct_arena.specs.Counts.{AreNumbered}
use Rattle.ct_arena.specs.Seen.{Seen}
use Rattle.ct_keeper.specs.Served.{first_pass}
use Rattle.ct_transaction.specs.State.{SessionState, beginning}
use Rattle.ct_transaction.specs.Answers.{committed_of, commits_by, is_full, GoesOn}
use Rattle.ct_serve.specs.Sessions.{EndsAtFull}
use Rattle.ct_serve.specs.Within.{AreWithin}

-- replies lead lawfully from one state to another, and what was made meanwhile is within the sum of the bounds of their texts
pub record MadeWithin (H : List PlainCommit) (W : List ℕ) (N : ℕ) (first last : SessionState) (xs : List (List ℕ)) (rs : List Reply) (made made' : ℕ) : Type 0 where
  pub total : ℕ
  pub bounds : AreWithin H W N first xs rs last total
  pub few : made' ≤ made + total

-- what a session has done that came from one state to another, and from one pass to another: its replies to these texts are
-- lawful and its words within their bounds, however the words go on, and its commits that came to the words are those of its
-- replies
pub record Progress (N : ℕ) (first last : SessionState) (pass pass' : Seen) (xs : List (List ℕ)) (rs : List Reply) : Type 0 where
  pub within : (W : List ℕ) → GoesOn N pass'.words W → (H : List PlainCommit) → StandsFor H W → MadeWithin H W N first last xs rs pass.made pass'.made
  pub longer : IsPrefix pass.words pass'.words
  pub same : last.session ≡ first.session
  pub commits : commits_by first.session 1 (commits_of pass'.words) ≡ commits_by first.session 1 (commits_of pass.words) ++ filter_map committed_of rs
  pub full : EndsAtFull rs
  pub filled : list_any is_full rs ≡ true → length pass'.words ≡ N

-- what contracts see of a client: the pass of its session, its script, and the replies once the script was executed
pub record ClientView : Type 0 where
  pub pass : Seen
  pub script : List ℕ
  pub replies : Option (List Reply)

-- the pass that is there; else one that has nothing
abbrev pub seen_by : Option Seen → Seen
seen_by (Some pass) = pass
seen_by None = record { session = 0; words = []; made = 0; mine = 0 }

-- a client before its script was executed: its session made no commit, and the script has not too many statements
pub record IsReady (c : ClientView) : Type 0 where
  pub none : c.pass.mine ≡ 0
  pub few : length (texts c.script) < 2 ^ 18

-- a session that was at its beginning, with this pass, has these replies to a script
pub record HasAnswered (N : ℕ) (pass pass' : Seen) (script : List ℕ) (rs : List Reply) : Type 0 where
  pub last : SessionState
  pub progress : Progress N (beginning pass.session) last pass pass' (texts script) rs

-- what a client has done between two looks at it: its replies, if memory was not wanting for them, are all that its session
-- did from its beginning on
pub record HasExecuted (N : ℕ) (before after : ClientView) : Type 0 where
  pub script_is : after.script ≡ before.script
  pub number : after.pass.session ≡ before.pass.session
  pub answered : IfSome after.replies (HasAnswered N before.pass after.pass before.script)

-- the replies of a client are all that its session did on the log
abbrev pub HasRun : ℕ → ClientView → Type 0
HasRun N c = IfSome c.replies (HasAnswered N (first_pass c.pass.session) c.pass c.script)

-- a session at its end, by its pass: its replies to its script are all that it did
pub record HasEnded (N : ℕ) (pass : Seen) (log : SessionLog) : Type 0 where
  pub answered : HasAnswered N (first_pass pass.session) pass log.script log.replies
  pub numbered : AreNumbered pass.session pass.mine pass.words
