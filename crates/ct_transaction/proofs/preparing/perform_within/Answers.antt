use Rattle.std.{proofs.Common.{true, rules, sym, subst}}
use Rattle.ct_query.specs.Views.{statement_of}
use Rattle.ct_transaction.specs.Prepared.{IsPerformable, Prepares}
use Rattle.ct_transaction.proofs.preparing.perform_within.Goals as goal

pub change_within-requires-clause-asks : goal.change_within-requires-clause-asks
change_within-requires-clause-asks g c = subst (λ r. IsPerformable c.args.pass.now.words c.args.sight.now (statement_of r)) c.in-Act.is c.requires.asks

pub returns-in-Act : goal.returns-in-Act
returns-in-Act g c = subst (λ r. Prepares true g.N.Site.log.cap c.args.pass.now c.change_within.new.pass c.args.sight.now c.args.list c.args.fresh (statement_of r) c.change_within.result) (sym c.in-Act.is) c.change_within.ensures

pub answered-requires : goal.answered-requires
answered-requires g c = (search rules, subst (λ r. IsPerformable c.args.pass.now.words c.args.sight.now (statement_of r)) c.in-Ask.is c.requires.asks)

pub returns-in-Ask : goal.returns-in-Ask
returns-in-Ask g c = subst (λ r. Prepares true g.N.Site.log.cap c.args.pass.now c.answered.new.pass c.args.sight.now c.args.list c.args.fresh (statement_of r) c.answered.result) (sym c.in-Ask.is) (c.answered.ensures true c.args.list c.args.fresh)
