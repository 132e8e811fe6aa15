use Rattle.std.{proofs.Common.{◌+◌, ◌<◌, ◌++◌, [], length, map, sym, ap, subst, ◌∙◌, arith}, specs.Prelude.string_bytes}
use Rattle.std.{proofs.lemmas.List.{get_or-map, length-map}, proofs.lemmas.Result.err_from_is_err_and}
use Rattle.csv.specs.Records.{fields_of}
use Rattle.ct_csv.{specs.Script.insert_line, specs.Refusing.{AreRight, WhyNoRow}, proofs.Inserted.{one_line, one_right, no_rows}}
use Rattle.ct_csv.proofs.lines.push_inserts.Goals as goal

pub push_insert-requires : goal.push_insert-requires
push_insert-requires c =
    let at = get_or-map fields_of c.args.records.now c.loop-i.i _ [] (omega arith) ∙ ap fields_of (sym c.index-records-i.is) in
    subst (λ f. 0 < length f) at (c.requires c.loop-i.i (omega (arith, length-map c.args.records.now fields_of)))

pub returns-in_err-push_insert-clause-error : goal.returns-in_err-push_insert-clause-error
returns-in_err-push_insert-clause-error c =
    let rs = map fields_of c.args.records.now in
    let i = c.loop-i.i in
    let at = get_or-map fields_of c.args.records.now i _ [] (omega arith) ∙ ap fields_of (sym c.index-records-i.is) in
    let e = c.in_err-push_insert.field-0.0 in
    let why = subst (λ f. WhyNoRow (i + 1) f e) (sym at) c.in_err-push_insert.ensures.error in
    let p = err_from_is_err_and c.from_residual.result c.from_residual.ensures.1 in
    rw (p.1, p.2) (no_rows rs i e c.loop-i.invariant.0 (omega (arith, length-map c.args.records.now fields_of)) c.loop-i.invariant.2 why)

pub loop-i-preserved : goal.loop-i-preserved
loop-i-preserved c =
    let rs = map fields_of c.args.records.now in
    let i = c.loop-i.i in
    let inv = c.loop-i.invariant in
    let name = c.args.name.now in
    let at = get_or-map fields_of c.args.records.now i _ [] (omega arith) ∙ ap fields_of (sym c.index-records-i.is) in (
      omega arith,
      one_line (insert_line name) rs i [] (string_bytes c.args.out.now) (string_bytes c.loop-i.out) (string_bytes c.push_insert.new.out) inv.0 (omega (arith, length-map c.args.records.now fields_of)) inv.1
          (c.in_ok-push_insert.ensures.ok ∙ ap (λ f. string_bytes c.loop-i.out ++ insert_line name f) (sym at)),
      one_right rs i inv.2 (subst AreRight (sym at) c.in_ok-push_insert.ensures.right),
    )
