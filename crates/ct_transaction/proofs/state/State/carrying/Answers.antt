use Rattle.std.proofs.Common.{sym, subst}
use Rattle.ct_transaction.{specs.Executes.Executes, specs.Sessions.{IsSession, state_of}}
use Rattle.ct_transaction.proofs.state.State.carrying.Goals as goal

pub returns-clause-session : goal.returns-clause-session
returns-clause-session g c = λ k. subst (λ n. IsSession c.args.self.pass.words n c.args.self.transaction) (sym c.max.ensures) k

pub returns-clause-executes : goal.returns-clause-executes
returns-clause-executes g c = λ room s words st r e.
    subst (λ n. Executes room s (state_of c.args.self.pass n c.args.self.fresh c.args.self.transaction) words c.args.self.pass.words st r) (sym c.max.ensures) e
