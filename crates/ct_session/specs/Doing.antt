-- A statement outside a transaction: what it asks for at a version, and what it has done when it is answered.
use Rattle.std.specs.Prelude.{◌≡◌, ◌+◌, ℕ, [], true, Option, None, Result, IfOk, IfErr}
use Rattle.ct_arena.specs.Seen.{Seen}
use Rattle.ct_condition.specs.Writes.{charge}
use Rattle.ct_keeper.specs.Offers.{IsOffer}
use Rattle.ct_parse.specs.declared.tree.Statement.{Statement}
use Rattle.ct_statement.specs.Making as making
use Rattle.ct_table.specs.Snapshot.{commits_to}
use Rattle.ct_transaction.specs.Answers.{is_full, is_of_name, is_unasked}
use Rattle.ct_transaction.specs.Bounded.{Makes}
use Rattle.ct_transaction.specs.Executes.{Executes}
use Rattle.ct_transaction.specs.Prepared.{IsRefused}
use Rattle.ct_transaction.specs.Sessions.{IsSession, state_of}
use Rattle.ct_transaction.specs.declared.state.Open.{Open}
use Rattle.ct_transcript.specs.declared.reply.Refusal.{Refusal}
use Rattle.ct_transcript.specs.declared.reply.Reply.{Reply}
use Rattle.ct_session.{specs.declared.settling.Ready.Ready, specs.Offering.{IsReady, Readies}}
use Rattle.ct_session.specs.declared.settling.Ready.TheVariants as ready

-- a statement asks for this at a version, or is refused there for a cause that holds. It made at most as much from so much
-- on, and nothing where it is refused for a name or a count
pub record IsAskedFor (N made : ℕ) (pass : Seen) (fresh version : ℕ) (st : Statement) (r : Result Ready Refusal) : Type 0 where
  pub ok : IfOk r (IsReady pass fresh version st)
  pub err : IfErr r (IsRefused (commits_to pass.words version) [] N pass.words pass.session fresh st)
  pub readies : Readies pass.words version pass.session fresh st made (pass.made + charge (making.is_full r))
  pub unasked : IfErr r (λ why. is_of_name why ≡ true → pass.made ≡ made)

-- an offer on a version is one that the keeper takes
abbrev pub IsTaken : Seen → ℕ → Ready → Type 0
IsTaken pass version (ready.Answer given) = Unit {0}
IsTaken pass version (ready.Offer o) = (o.offer.base ≡ version) × IsOffer pass o.offer

-- a statement outside a transaction, which began with one pass, leads the session to a state, and has this reply. It made at
-- most as much as its bound, and nothing where it is refused for a name or a count
pub record IsDone (N : ℕ) (first : Seen) (seen fresh : ℕ) (st : Statement) (pass : Seen) (seen' fresh' : ℕ) (open' : Option Open) (r : Reply) : Type 0 where
  pub session : IsSession pass.words seen' open'
  pub makes : Makes (state_of first seen fresh None) pass.words st first.made (pass.made + charge (is_full r))
  pub unasked : is_unasked r ≡ true → pass.made ≡ first.made
  pub executes : Executes N (state_of first seen fresh None) (state_of pass seen' fresh' open') first.words pass.words st r
