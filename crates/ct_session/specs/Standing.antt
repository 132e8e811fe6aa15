-- What contracts see of a session, and what is true of it between its statements.
use Rattle.std.specs.Prelude.{ℕ, [], Option, Some, None}
use Rattle.ct_arena.specs.Seen.{Seen}
use Rattle.ct_transaction.{specs.declared.state.Open.Open, specs.Sessions.{IsSession, state_of}, specs.State.SessionState}
use Rattle.ct_session.{specs.declared.knowing.Known.Known, specs.Known.IsKnown}

-- a session: its pass, the greatest version that a reply carried, the number of the last null that it drew, and its open
-- transaction
pub record Standing : Type 0 where
  pub pass : Seen
  pub seen : ℕ
  pub fresh : ℕ
  pub transaction : Option Open

-- the state that a session is in
abbrev pub state_in : Standing → SessionState
state_in s = state_of s.pass s.seen s.fresh s.transaction

-- the session of a state that is there; else a session that has nothing
abbrev pub standing_of : Option Standing → Standing
standing_of (Some s) = s
standing_of None = record { pass = record { session = 0; words = []; made = 0; mine = 0 }; seen = 0; fresh = 0; transaction = None }

-- the state is there, and true of a session, and so is what is known beside it
abbrev pub IsThere : Option Standing → Known → Type 0
IsThere (Some s) known = IsSession s.pass.words s.seen s.transaction × IsKnown s.pass.words known
IsThere None known = ⊥
