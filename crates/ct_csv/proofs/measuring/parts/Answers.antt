use Rattle.std.proofs.Common.{◌+◌, get_or, length, map, min, refl, ap, sym, ◌∙◌, arith}
use Rattle.std.{proofs.lemmas.List.take_all, specs.List.join_by}
use Rattle.ct_word.specs.Condition.{listed}
use Rattle.ct_rewrite.{specs.Nodes.nth, specs.Sizes.nest_of_parts}
use Rattle.ct_print.specs.TermText.{term_text}
use Rattle.ct_csv.{specs.Measured.capped, proofs.ExportTexts.{part_text, parts_joined}, proofs.Widths.{no_part, one_part, placed_at}}
use Rattle.ct_csv.proofs.measuring.parts.Goals as goal

pub loop-i-init : goal.loop-i-init
loop-i-init c = λ cs are. no_part c.args.between.now (nth cs)

pub loop-i-preserved : goal.loop-i-preserved
loop-i-preserved c = λ cs are.
    one_part c.args.between.now c.args.sizes.now cs are c.args.positions.now c.loop-i.i (get_or c.args.positions.now c.loop-i.i 0) c.loop-i.bytes c.loop-i.nest c.gap.result c.saturating_add-bytes.result c.max-nest.result
    _ c.as_part-part.result c.loop-i-test.true refl (placed_at (length c.args.sizes.now) c.args.positions.now c.loop-i.i c.requires c.loop-i-test.true) c.as_part-part.ensures
    (c.loop-i.invariant cs are) c.gap.ensures (c.saturating_add-bytes.ensures ∙ ap (λ n. min (n + c.as_part-part.result.bytes) 18446744073709551615) c.saturating_add.ensures) c.max-nest.ensures

pub returns-clause-bytes : goal.returns-clause-bytes
returns-clause-bytes c = λ cs are.
    let ks = c.args.positions.now in
    let all = take_all c.loop-i.i ks (omega (arith, c.loop-i-test.false)) in
    (c.loop-i.invariant cs are).bytes_are ∙ ap (λ xs. capped (length (join_by (part_text term_text c.args.between.now (nth cs)) c.args.between.now xs))) all
    ∙ ap (λ w. capped (length w)) (sym (parts_joined term_text c.args.between.now (nth cs) ks))

pub returns-clause-nest : goal.returns-clause-nest
returns-clause-nest c = λ cs are.
    let ks = c.args.positions.now in
    let all = take_all c.loop-i.i ks (omega (arith, c.loop-i-test.false)) in
    (c.loop-i.invariant cs are).nest_is ∙ ap (λ xs. capped (nest_of_parts (listed (map (nth cs) xs)))) all
