use Rattle.std.{proofs.Common.{◌≡◌, ◌+◌, sym, subst}, specs.Prelude.{Option, Some, None, IsSome}, proofs.lemmas.Bool.false≢true}
use Rattle.ct_condition.specs.Writes.{charge}
use Rattle.ct_parse.specs.declared.tree.Statement.{Statement}
use Rattle.ct_transaction.{specs.Answers.is_full, specs.Bounded.Makes, specs.Executes.Executes, specs.Orders.IsMisplaced, specs.Sessions.state_of, specs.declared.state.Open.Open}
use Rattle.ct_parse.specs.declared.tree.Statement.TheVariants as tree
use Rattle.ct_transcript.specs.declared.reply.Refusal.TheVariants as refusal
use Rattle.ct_transaction.proofs.transacting.transact.Goals as goal

-- BEGIN is misplaced in a transaction
begin_misplaced : (t : Option Open) → IsSome t → (st : Statement) → st ≡ tree.Begin → IsMisplaced t st refusal.InTransaction
begin_misplaced t some st is = subst (λ s. IsMisplaced t s refusal.InTransaction) (sym is) (by_transaction t some) where
  by_transaction : (o : Option Open) → IsSome o → IsMisplaced o tree.Begin refusal.InTransaction
  by_transaction (Some o) there = tt
  by_transaction None there = absurd (false≢true there)

pub returns-in-Begin-clause-makes : goal.returns-in-Begin-clause-makes
returns-in-Begin-clause-makes g c = c.refused_here.ensures.makes c.args.statement.now (begin_misplaced c.args.session.transaction c.requires.some c.args.statement.now c.in-Begin.is)

pub returns-in-Begin-clause-executes : goal.returns-in-Begin-clause-executes
returns-in-Begin-clause-executes g c = c.refused_here.ensures.executes c.args.statement.now (begin_misplaced c.args.session.transaction c.requires.some c.args.statement.now c.in-Begin.is)

pub returns-in-Commit-clause-makes : goal.returns-in-Commit-clause-makes
returns-in-Commit-clause-makes g c =
    let s = c.args.session in
    let after = c.commit.result.0 in
    subst (λ st. Makes (state_of s.pass s.seen s.fresh s.transaction) after.pass.words st s.pass.made (after.pass.made + charge (is_full c.commit.result.1))) (sym c.in-Commit.is) c.commit.ensures.makes

pub returns-in-Commit-clause-executes : goal.returns-in-Commit-clause-executes
returns-in-Commit-clause-executes g c =
    let s = c.args.session in
    let after = c.commit.result.0 in
    subst (λ st. Executes g.N.Site.log.cap (state_of s.pass s.seen s.fresh s.transaction) (state_of after.pass after.seen after.fresh after.transaction) s.pass.words after.pass.words st c.commit.result.1) (sym c.in-Commit.is) c.commit.ensures.executes

pub returns-in-Rollback-clause-executes : goal.returns-in-Rollback-clause-executes
returns-in-Rollback-clause-executes g c =
    let s = c.args.session in
    let after = c.roll_back.result.0 in
    subst (λ st. Executes g.N.Site.log.cap (state_of s.pass s.seen s.fresh s.transaction) (state_of after.pass after.seen after.fresh after.transaction) s.pass.words after.pass.words st c.roll_back.result.1) (sym c.in-Rollback.is) c.roll_back.ensures.executes
