use Rattle.std.{proofs.Common.{◌≡◌, ◌⊎◌, false, inl, inr, sym, subst, ◌∙◌}, specs.Prelude.{Option, Some, None, is_some}, proofs.lemmas.Bool.false≢true}
use Rattle.ct_parse.specs.declared.tree.Statement.{Statement}
use Rattle.ct_transaction.{specs.Executes.Executes, specs.Orders.IsMisplaced, specs.Sessions.state_of, specs.declared.state.Open.Open}
use Rattle.ct_session.{specs.declared.knowing.Known.Known, specs.Known.IsKnown, proofs.Asked.{done_executes, done_makes}, proofs.Unasked.never_both}
use Rattle.ct_parse.specs.declared.tree.Statement.TheVariants as tree
use Rattle.ct_transcript.specs.declared.reply.Refusal.TheVariants as refusal
use Rattle.ct_session.proofs.executing.placed.Goals as goal

-- COMMIT and ROLLBACK are misplaced outside a transaction
end_misplaced : (t : Option Open) → is_some t ≡ false → (st : Statement) → (st ≡ tree.Commit) ⊎ (st ≡ tree.Rollback) → IsMisplaced t st refusal.NoTransaction
end_misplaced None none st (inl is) = subst (λ s. IsMisplaced None s refusal.NoTransaction) (sym is) tt
end_misplaced None none st (inr is) = subst (λ s. IsMisplaced None s refusal.NoTransaction) (sym is) tt
end_misplaced (Some o) none st is = absurd (false≢true (sym none))

pub returns-in-InsertRows-false-clause-makes : goal.returns-in-InsertRows-false-clause-makes
returns-in-InsertRows-false-clause-makes g c =
    let s = c.args.session in
    let after = c.insert.result.0 in
    done_makes g.N.Site.log.cap s.pass s.seen s.fresh s.transaction (sym c.in-InsertRows-false.ensures) c.args.statement.now after.pass after.seen after.fresh after.transaction c.insert.result.1 c.insert.ensures.done

pub returns-in-InsertRows-false-clause-executes : goal.returns-in-InsertRows-false-clause-executes
returns-in-InsertRows-false-clause-executes g c =
    let s = c.args.session in
    let after = c.insert.result.0 in
    done_executes g.N.Site.log.cap s.pass s.seen s.fresh s.transaction (sym c.in-InsertRows-false.ensures) c.args.statement.now after.pass after.seen after.fresh after.transaction c.insert.result.1 c.insert.ensures.done

pub returns-then-is_open-2 : goal.returns-then-is_open-2
returns-then-is_open-2 g c = record {
  session = c.transact.ensures.session;
  known = subst (λ (k : Known). IsKnown c.transact.result.0.pass.words k) (sym c.nothing.ensures) tt;
  makes = c.transact.ensures.makes;
  unasked = λ none. never_both (is_some c.args.session.transaction) none (sym c.is_some-is_open.ensures ∙ c.if-is_open-2.true);
  executes = c.transact.ensures.executes;
}

pub returns-in_default-statement : goal.returns-in_default-statement
returns-in_default-statement g c =
    let N = g.N.Site.log.cap in
    let s = c.args.session in
    let st = c.args.statement.now in
    let after = c.alone.result.0 in
    let said = c.alone.result.1 in
    let done = c.alone.ensures.done in
    let none = sym c.is_some-is_open.ensures ∙ c.if-is_open-2.false in
    record {
      session = done.session;
      known = subst (λ (k : Known). IsKnown after.pass.words k) (sym c.nothing.ensures) tt;
      makes = done_makes N s.pass s.seen s.fresh s.transaction none st after.pass after.seen after.fresh after.transaction said done;
      unasked = λ outside plain is. done.unasked is;
      executes = done_executes N s.pass s.seen s.fresh s.transaction none st after.pass after.seen after.fresh after.transaction said done;
    }

pub returns-in-Begin-clause-executes : goal.returns-in-Begin-clause-executes
returns-in-Begin-clause-executes g c =
    let s = c.args.session in
    let after = c.begin.result.0 in
    subst (λ st. Executes g.N.Site.log.cap (state_of s.pass s.seen s.fresh s.transaction) (state_of after.pass after.seen after.fresh after.transaction) s.pass.words after.pass.words st c.begin.result.1) (sym c.in-Begin.is) c.begin.ensures.executes

pub returns-in-Commit-clause-makes : goal.returns-in-Commit-clause-makes
returns-in-Commit-clause-makes g c = c.refused_here.ensures.makes c.args.statement.now (end_misplaced c.args.session.transaction (sym c.if-is_open-2.ensures) c.args.statement.now c.in-Commit.is)

pub returns-in-Commit-clause-executes : goal.returns-in-Commit-clause-executes
returns-in-Commit-clause-executes g c = c.refused_here.ensures.executes c.args.statement.now (end_misplaced c.args.session.transaction (sym c.if-is_open-2.ensures) c.args.statement.now c.in-Commit.is)
