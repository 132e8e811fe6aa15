use Rattle.std.{proofs.Common.{◌≡◌, ◌-◌, ◌<◌, ◌∷◌, [], length, take, get_or, sym, ap, ◌∙◌, arith, length-append}, specs.Prelude.{Some}}
use Rattle.std.proofs.lemmas.List.{take_more}
use Rattle.csv.specs.Records.{fields_of}
use Rattle.ct_csv.{specs.Fields.{field_name, names_of}, proofs.Rows.names_more, proofs.Found.no_name_at}
use Rattle.ct_csv.proofs.fields.columns.Goals as goal

pub returns-in-None-clause-error : goal.returns-in-None-clause-error
returns-in-None-clause-error c =
    let fields = fields_of c.args.row.now in
    let at : c.saturating_sub-last.result ≡ length fields - 1 = omega (arith, c.saturating_sub-last.ensures, c.len.ensures) in
    no_name_at fields c.saturating_sub-last.result c.loop-k.k at (omega arith) (ap field_name (sym c.field-in-loop-k.ensures) ∙ sym c.in_ok-name.ensures ∙ c.in-None.is)

pub loop-k-preserved : goal.loop-k-preserved
loop-k-preserved c =
    let fields = fields_of c.args.row.now in
    let k = c.loop-k.k in
    let inv = c.loop-k.invariant in
    let at : c.saturating_sub-last.result ≡ length fields - 1 = omega (arith, c.saturating_sub-last.ensures, c.len.ensures) in
    let less : k < length fields = omega (arith, at) in
    let items = c.in_ok-push-in-Some.ensures.items in
    let name : field_name (get_or fields k []) ≡ Some c.in-Some.name = ap field_name (sym c.field-in-loop-k.ensures) ∙ sym c.in_ok-name.ensures ∙ c.in-Some.is in (
      ap names_of (take_more fields k [] less) ∙ names_more (take k fields) (get_or fields k []) c.in-Some.name c.loop-k.names.items inv.0 name ∙ ap Some (sym items),
      omega (arith, ap length items, length-append c.loop-k.names.items (c.in-Some.name ∷ []), inv.1),
    )
