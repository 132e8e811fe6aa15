-- A statement outside a transaction, from what it asks for to what it has done.
use Rattle.std.{proofs.Common.{◌≡◌, ◌+◌, ℕ, false, List, [], subst, sym}, specs.Prelude.{Option, Result, Ok, Err, IfOk, IsNone}, proofs.lemmas.Result.IfOk-weaker}
use Rattle.ct_arena.specs.Seen.{Seen}
use Rattle.ct_condition.specs.Writes.{charge, kept_of}
use Rattle.ct_parse.specs.declared.tree.Statement.{Statement}
use Rattle.ct_query.{specs.Patterns.count, specs.Plain.PlainStatement, specs.Schema.schema}
use Rattle.ct_table.specs.Snapshot.{commits_to}
use Rattle.ct_transcript.{specs.declared.reply.Refusal.Refusal, specs.declared.reply.Reply.Reply}
use Rattle.ct_statement.{specs.declared.sight.Sight.Sight, specs.Making.{says_full, widths_in}, specs.Sight.{actions_before, history_of}, specs.Unmet.IsWant}
use Rattle.ct_transaction.{specs.Answers.{is_full, is_of_name}, specs.Bounded.{Makes, Performs}, specs.Executes.Executes, specs.Prepared.{IsRefused, IsResolved}, specs.Sessions.state_of}
use Rattle.ct_transaction.{specs.declared.state.Open.Open, proofs.Ordered.none_open}
use Rattle.ct_session.{specs.Doing.{IsAskedFor, IsDone, IsTaken}, specs.Known.SeesAlone, specs.Offering.{IsReady, IsReadyToOffer}, specs.declared.offering.Offering.Offering, specs.declared.settling.Ready.Ready}
use Rattle.ct_session.{proofs.Bounded.readies_on, proofs.Unasked.{never_both, want_unnamed}}
use mathlib.Core.List.{IsPrefix}
use Rattle.ct_session.specs.declared.settling.Ready.TheVariants as ready

-- an action whose change is all in its text, at what a statement saw, over the words that came with its change
module _ (N : ℕ) (begun now : Seen) (longer : IsPrefix begun.words now.words) (kept : kept_of now ≡ kept_of begun) (sight : Sight) (sees : SeesAlone begun.words sight) (fresh : ℕ) (st : Statement) (asked : PlainStatement)
    (found : IsResolved (history_of begun.words sight) (actions_before sight) begun.session fresh st asked) where
  abbrev counts : List ℕ → ℕ
  counts = count (history_of begun.words sight) (actions_before sight)

  abbrev widths : List ℕ → ℕ
  widths = widths_in (schema (history_of begun.words sight) (actions_before sight)).tables

  -- it is offered
  pub offer_asked : (o : Offering) → o.offer.base ≡ sight.version → IsReadyToOffer now fresh o st → ((counts' widths' : List ℕ → ℕ) → Performs false counts' widths' asked begun.made (now.made + 0))
      → IsAskedFor N begun.made now fresh sight.version st (Ok (ready.Offer o))
  offer_asked o base is made = record { ok = (base, is); err = tt; readies = readies_on begun now longer kept sight sees fresh st asked found begun.made (now.made + 0) (made counts widths); unasked = tt }

  -- or something is wanting for it
  pub want_asked : (why : Refusal) → IsWant N now.words why → IsRefused (commits_to now.words sight.version) [] N now.words now.session fresh st why
      → ((counts' widths' : List ℕ → ℕ) → Performs false counts' widths' asked begun.made (now.made + charge (says_full why))) → IsAskedFor N begun.made now fresh sight.version st (Err why)
  want_asked why want refused made = record {
    ok = tt;
    err = refused;
    readies = readies_on begun now longer kept sight sees fresh st asked found begun.made (now.made + charge (says_full why)) (made counts widths);
    unasked = never_both (is_of_name why) (want_unnamed N now.words why want);
  }

-- an offer that is ready is one that the keeper takes
ready_taken : (pass : Seen) (fresh version : ℕ) (st : Statement) (r : Ready) → IsReady pass fresh version st r → IsTaken pass version r
ready_taken pass fresh version st (ready.Answer given) is = tt
ready_taken pass fresh version st (ready.Offer o) is = (is.0, is.1.takes)

pub asked_taken : (N made : ℕ) (pass : Seen) (fresh version : ℕ) (st : Statement) (r : Result Ready Refusal) → IsAskedFor N made pass fresh version st r → IfOk r (IsTaken pass version)
asked_taken N made pass fresh version st r asks = IfOk-weaker r (IsReady pass fresh version st) (IsTaken pass version) (ready_taken pass fresh version st) asks.ok

-- what is done from a state is done from one of the same numbers
pub done_as : (N : ℕ) (first : Seen) (seen seen' fresh fresh' : ℕ) → seen' ≡ seen → fresh' ≡ fresh → (st : Statement) (after : Seen) (s f : ℕ) (o : Option Open) (r : Reply)
    → IsDone N first seen' fresh' st after s f o r → IsDone N first seen fresh st after s f o r
done_as N first seen seen' fresh fresh' same alike st after s f o r d =
    subst (λ n. IsDone N first n fresh st after s f o r) same (subst (λ n. IsDone N first seen' n st after s f o r) alike d)

-- what is done outside a transaction is done in the state of a session without one
module _ (N : ℕ) (pass : Seen) (seen fresh : ℕ) (open' : Option Open) (none : IsNone open') (st : Statement) (after : Seen) (s f : ℕ) (o : Option Open) (r : Reply) (d : IsDone N pass seen fresh st after s f o r) where
  pub done_makes : Makes (state_of pass seen fresh open') after.words st pass.made (after.made + charge (is_full r))
  done_makes = subst (λ p. Makes (state_of pass seen fresh p) after.words st pass.made (after.made + charge (is_full r))) (sym (none_open open' none)) d.makes

  pub done_executes : Executes N (state_of pass seen fresh open') (state_of after s f o) pass.words after.words st r
  done_executes = subst (λ p. Executes N (state_of pass seen fresh p) (state_of after s f o) pass.words after.words st r) (sym (none_open open' none)) d.executes
