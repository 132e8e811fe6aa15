use Rattle.std.proofs.Common.{◌∙◌}
use Rattle.ct_tidy.proofs.Valued.{value_found, value_lacking}
use Rattle.ct_tidy.proofs.mapped.value_of.Goals as goal

pub returns-in_ok-copy-in-Some : goal.returns-in_ok-copy-in-Some
returns-in_ok-copy-in-Some c = c.in_ok-copy-in-Some.ensures.cases ∙ value_found c.args.values.now.entries c.args.world.now c.requires c.args.null.now c.in-Some.value.now c.in-Some.ensures.value

pub returns-in-None : goal.returns-in-None
returns-in-None c = value_lacking c.args.values.now.entries c.args.world.now c.requires c.args.null.now c.in-None.ensures.value
