-- What an action was prepared for.
use Rattle.std.proofs.Common.{◌≡◌, ℕ, List, subst}
use Rattle.std.specs.Prelude.{Option, Ok}
use Rattle.ct_word.specs.Change.{PlainChange, PlainCommit}
use Rattle.ct_query.specs.Reads.{reads_of}
use Rattle.ct_query.{specs.Plain.{PlainAction, PlainStatement}, specs.Schema.schema, specs.Views.action_of, specs.declared.action.Read.Read}
use Rattle.ct_parse.specs.declared.tree.Statement.{Statement}
use Rattle.ct_resolve.specs.Statements.{resolved}
use Rattle.ct_statement.{specs.declared.proposing.Proposal.Proposal, specs.declared.sight.Sight.Sight, specs.declared.stepping.Step.Step}
use Rattle.ct_transaction.specs.Prepared.{IsChange, IsPrepared, IsPreparedFor}
use Rattle.ct_query.specs.Plain as plain
use Rattle.ct_transaction.specs.declared.preparing.Prepared.TheVariants as prepared

-- what an action was prepared for
pub record ForAction (words : List ℕ) (h : List PlainCommit) (before : List PlainAction) (list : List PlainChange) (session fresh : ℕ) (sight : Sight) (st : Statement) (p : Proposal) (step : Option Step) (reads : List Read) : Type 0 where
  pub resolves : resolved (schema h before) session fresh st ≡ Ok (plain.Act (action_of p.action))
  pub change : IsChange words h before list fresh sight (action_of p.action) (action_of p.action) p.changes p.fresh step
  pub reads_are : reads ≡ reads_of (plain.Act (action_of p.action))

module _ (words : List ℕ) (h : List PlainCommit) (before : List PlainAction) (list : List PlainChange) (session fresh : ℕ) (sight : Sight) (st : Statement) (p : Proposal) (step : Option Step) (reads : List Read) where
  pub prepared_action : IsPrepared words h before list session fresh sight st (prepared.Change p step) reads → ForAction words h before list session fresh sight st p step reads
  prepared_action k = by_asked k.asked k.resolves k.reads_are k.prepared where
    by_asked : (asked : PlainStatement) → resolved (schema h before) session fresh st ≡ Ok asked → reads ≡ reads_of asked → IsPreparedFor words h before list fresh sight asked (prepared.Change p step)
        → ForAction words h before list session fresh sight st p step reads
    by_asked (plain.Act a) r e i = subst (λ b. resolved (schema h before) session fresh st ≡ Ok (plain.Act b) → reads ≡ reads_of (plain.Act b)
        → IsChange words h before list fresh sight b (action_of p.action) p.changes p.fresh step
        → ForAction words h before list session fresh sight st p step reads) i.action (λ s d j. record { resolves = s; change = j; reads_are = d }) r e i
    by_asked _ r e i = absurd i
