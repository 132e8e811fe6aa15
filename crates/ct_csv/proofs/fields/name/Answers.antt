use Rattle.ct_csv.proofs.Named.{named}
use Rattle.ct_csv.proofs.fields.name.Goals as goal

pub returns : goal.returns
returns c = named c.args.field.now c.name_of.result c.name_of.ensures.some c.name_of.ensures.none
