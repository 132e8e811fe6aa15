-- What one statement of a session does: its reply is lawful, however the log goes on.
use Rattle.std.specs.Prelude.{◌≡◌, ◌≤◌, ◌<◌, ◌+◌, ◌-◌, ℕ, max, List, [], ◌∷◌, ◌++◌, length, Option, Some, None, Bool, true, false, IsTrue, IsSome, IfSome, nat_eq, if◌then◌else◌}
use Rattle.std.specs.Option.{option_to_list}
use mathlib.Core.List.{IsPrefix}
use Rattle.ct_word.specs.Change.{PlainCommit}
use Rattle.ct_word.specs.Reading.{commits_of}
use Rattle.ct_word.specs.StandsFor.{StandsFor}
use Rattle.ct_word.specs.WellFormed.{IsWellFormed}
use Rattle.ct_transcript.specs.declared.reply.Reply.{Reply}
use Rattle.ct_transcript.specs.declared.reply.Reply.TheVariants as reply
use Rattle.ct_transcript.specs.declared.reply.Refusal.{Refusal}
use Rattle.ct_transcript.specs.declared.reply.Refusal.TheVariants as refusal
use Rattle.ct_transaction.specs.State.{SessionState}
use Rattle.ct_transaction.specs.LawfulRefusal.{IsConflict}
use Rattle.ct_transaction.specs.LawfulReply.{LawfulReply}

-- the version of a Committed reply
abbrev pub committed_of : Reply → Option ℕ
committed_of (reply.Committed m) = Some m
committed_of _ = None

-- whether a reply says that the log is full
abbrev pub is_full : Reply → Bool
is_full (reply.Refused at refusal.Full) = true
is_full _ = false

-- whether a refusal is for a name or a count that does not fit
abbrev pub is_of_name : Refusal → Bool
is_of_name refusal.UnknownTable = true
is_of_name refusal.TableExists = true
is_of_name refusal.UnknownColumn = true
is_of_name refusal.AmbiguousColumn = true
is_of_name refusal.DuplicateName = true
is_of_name refusal.ColumnCount = true
is_of_name _ = false

-- whether a reply refuses a statement for a name or a count that does not fit, so that it asks for nothing
abbrev pub is_unasked : Reply → Bool
is_unasked (reply.Refused at why) = is_of_name why
is_unasked _ = false

-- whether a refusal rests on no version: that of a text, of BEGIN, COMMIT or ROLLBACK in the wrong place, and for want of memory
abbrev pub is_of_text : Refusal → Bool
is_of_text refusal.NotAStatement = true
is_of_text refusal.TooDeep = true
is_of_text refusal.NumberRange = true
is_of_text refusal.InTransaction = true
is_of_text refusal.NoTransaction = true
is_of_text refusal.Memory = true
is_of_text _ = false

-- the version that a reply outside a transaction rests on, if it rests on one: a commit on the one before its own, and a
-- conflict on the one at which it was found
abbrev pub version_of : Reply → Option ℕ
version_of (reply.Begun at) = Some at
version_of (reply.Committed m) = Some (m - 1)
version_of (reply.Rows at plus answer) = Some at
version_of (reply.Possible at plus columns list) = Some at
version_of (reply.Certain at plus columns list) = Some at
version_of (reply.Refused at why) = if is_of_text why then None else Some at
version_of reply.RolledBack = None
version_of (reply.Pending at plus) = None
version_of (reply.Nothing at) = None

-- the numbers, from this one on, of the commits of a session
abbrev pub commits_by : ℕ → ℕ → List PlainCommit → List ℕ
commits_by s m [] = []
commits_by s m (c ∷ cs) = if nat_eq c.session s then m ∷ commits_by s (m + 1) cs else commits_by s (m + 1) cs

-- the words of a log may go on from these: they begin with them, are well formed, and at most N
pub record GoesOn (N : ℕ) (words W : List ℕ) : Type 0 where
  pub log : IsPrefix words W
  pub formed : IsWellFormed W
  pub room : length W ≤ N

-- the state, once the session has seen all commits of these words
abbrev pub having_seen : List ℕ → SessionState → SessionState
having_seen words s = record s { seen = max s.seen (length (commits_of words)) }

-- a conflict is lawful, however the words go on, for a session that had seen all commits of the words before: so its base has
-- all of them
abbrev pub ConflictsLater : ℕ → SessionState → SessionState → List ℕ → List ℕ → List ℕ → Reply → Type 0
ConflictsLater N s next words words' x (reply.Refused at (refusal.Conflict table was now at')) =
    (W : List ℕ) → GoesOn N words' W → (H : List PlainCommit) → StandsFor H W → IsConflict H W N (having_seen words s) x table was now at' next
ConflictsLater N s next words words' x _ = Unit {0}

-- a statement leads a session from a state to the next, and its words to further ones: the reply is lawful however the words
-- go on and for every history that stands for them; outside a transaction it rests on all commits of the words before; and
-- one commit of the session comes to the words where the reply says so, and else none
pub record Answers (N : ℕ) (s next : SessionState) (words words' : List ℕ) (x : List ℕ) (r : Reply) : Type 0 where
  pub lawful : (W : List ℕ) → GoesOn N words' W → (H : List PlainCommit) → StandsFor H W → LawfulReply H W N s x r next
  pub newest : s.transaction ≡ None → IfSome (version_of r) (λ at. length (commits_of words) ≤ at)
  pub later : s.transaction ≡ None → ConflictsLater N s next words words' x r
  pub longer : IsPrefix words words'
  pub room : length words' ≤ N
  pub same : next.session ≡ s.session
  pub commits : commits_by s.session 1 (commits_of words') ≡ commits_by s.session 1 (commits_of words) ++ option_to_list (committed_of r)
  pub full : IsTrue (is_full r) → length words' ≡ N
  pub not_full : IsSome (committed_of r) → length words < N
