use Rattle.std.{proofs.Common.{false, rules, sym, subst}, specs.Prelude.None}
use Rattle.ct_query.specs.Views.{statement_of}
use Rattle.ct_transaction.specs.Prepared.{IsPerformable, Prepares}
use Rattle.ct_transaction.proofs.preparing.perform_alone.Goals as goal

pub change_alone-requires : goal.change_alone-requires
change_alone-requires g c = record { asks = subst (λ r. IsPerformable c.args.pass.now.words c.args.sight.now (statement_of r)) c.in-Act.is c.requires.asks }

pub returns-in-Act : goal.returns-in-Act
returns-in-Act g c = subst (λ r. Prepares false g.N.Site.log.cap c.args.pass.now c.change_alone.new.pass c.args.sight.now None c.args.fresh (statement_of r) c.change_alone.result) (sym c.in-Act.is) c.change_alone.ensures

pub answered-requires : goal.answered-requires
answered-requires g c = (search rules, subst (λ r. IsPerformable c.args.pass.now.words c.args.sight.now (statement_of r)) c.in-Ask.is c.requires.asks)

pub returns-in-Ask : goal.returns-in-Ask
returns-in-Ask g c = subst (λ r. Prepares false g.N.Site.log.cap c.args.pass.now c.answered.new.pass c.args.sight.now None c.args.fresh (statement_of r) c.answered.result) (sym c.in-Ask.is) (c.answered.ensures false None c.args.fresh)
