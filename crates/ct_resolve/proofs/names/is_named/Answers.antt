use Rattle.std.proofs.Common.{◌∙◌}
use Rattle.ct_resolve.proofs.TablesFound.{there_is}
use Rattle.ct_resolve.proofs.names.is_named.Goals as goal

pub returns : goal.returns
returns g c = c.is_some.ensures ∙ there_is (λ h. h.now) c.heading.result (g.H.Headings.schema c.args.schema.now).tables c.args.name.now c.heading.ensures
