use Rattle.std.proofs.Common.{map, sym, subst}
use Rattle.csv.specs.Records.{fields_of}
use Rattle.ct_lex.specs.Spelling.{lowered}
use Rattle.ct_csv.{specs.Csv.{IsCsv, AreEven}, proofs.Imported.{imported, not_imported}}
use Rattle.ct_csv.proofs.importing.import.Goals as goal

pub script-requires : goal.script-requires
script-requires c = subst (λ xs. AreEven (map fields_of xs)) (sym c.as_slice.ensures.value) c.in_ok-records.ensures.ok.even

pub returns-clause-ok : goal.returns-clause-ok
returns-clause-ok c =
    let csv = subst (λ xs. IsCsv c.args.bytes.now (map fields_of xs)) (sym c.as_slice.ensures.value) c.in_ok-records.ensures.ok in
    imported (lowered c.args.name.now) c.args.bytes.now (map fields_of c.as_slice.result.now) c.script.result csv c.script.ensures.ok c.script.ensures.rows

pub returns-clause-error : goal.returns-clause-error
returns-clause-error c =
    let csv = subst (λ xs. IsCsv c.args.bytes.now (map fields_of xs)) (sym c.as_slice.ensures.value) c.in_ok-records.ensures.ok in
    not_imported c.args.bytes.now (map fields_of c.as_slice.result.now) c.script.result csv c.script.ensures.error
