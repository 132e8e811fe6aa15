use Rattle.ct_csv.proofs.Imported.{some_first}
use Rattle.ct_csv.proofs.importing.script.Goals as goal

pub push_inserts-requires : goal.push_inserts-requires
push_inserts-requires c =
    some_first c.args.records.now c.in-Some.first.now c.in_ok-columns.columns.items c.in-Some.ensures.value c.requires c.in_ok-columns.ensures.ok
