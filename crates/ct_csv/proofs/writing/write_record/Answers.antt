use Rattle.ct_csv.proofs.Recorded.{are_texts}
use Rattle.ct_csv.proofs.writing.write_record.Goals as goal

pub returns-in_err-views-clause-texts : goal.returns-in_err-views-clause-texts
returns-in_err-views-clause-texts c = are_texts c.args.fields.now

pub returns-in-Ok-clause-texts : goal.returns-in-Ok-clause-texts
returns-in-Ok-clause-texts c = are_texts c.args.fields.now

pub returns-clause-texts : goal.returns-clause-texts
returns-clause-texts c = are_texts c.args.fields.now
