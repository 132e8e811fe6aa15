use Rattle.csv.specs.Records.{fields_of}
use Rattle.ct_csv.proofs.Found.{some_field, none_field}
use Rattle.ct_csv.proofs.fields.field.Goals as goal

pub returns-in-Some : goal.returns-in-Some
returns-in-Some c = some_field (fields_of c.args.row.now) c.args.k c.in-Some.text.now c.in-Some.ensures.value

pub returns-in-None : goal.returns-in-None
returns-in-None c = none_field (fields_of c.args.row.now) c.args.k c.in-None.ensures.value
