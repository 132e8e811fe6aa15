use Rattle.ct_resolve.{proofs.Fitting.resolved_fits, proofs.Writing.resolved_writes}
use Rattle.ct_resolve.proofs.resolving.resolve.Goals as goal

pub returns-clause-fits : goal.returns-clause-fits
returns-clause-fits g c first last = resolved_fits (g.H.Headings.schema c.args.schema.now) c.args.session c.args.fresh c.args.statement.now _ first last c.in_ok-found.ensures.room c.in_ok-found.ensures.ok

pub returns-clause-writable : goal.returns-clause-writable
returns-clause-writable g c = λ ls written spells. (resolved_writes (g.H.Headings.schema c.args.schema.now) c.args.session c.args.fresh c.args.statement.now _ c.in_ok-found.ensures.ok ls written spells).0

pub returns-clause-named : goal.returns-clause-named
returns-clause-named g c = λ ls written spells. (resolved_writes (g.H.Headings.schema c.args.schema.now) c.args.session c.args.fresh c.args.statement.now _ c.in_ok-found.ensures.ok ls written spells).1
