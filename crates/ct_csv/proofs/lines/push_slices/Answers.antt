use Rattle.std.{proofs.Common.{◌++◌, ◌∙◌, sym, ap, subst, arith}, specs.Prelude.{codes, string_bytes}}
use Rattle.ct_print.proofs.Joins.{join_written}
use Rattle.ct_csv.{specs.Script.slice_of, proofs.Slices.{IsCut, cut}}
use Rattle.ct_csv.proofs.lines.push_slices.Goals as goal

pub range-requires-clause-start_le_end : goal.range-requires-clause-start_le_end
range-requires-clause-start_le_end c =
    let t = subst (IsCut c.args.text.now) (sym c.index-tokens-i.is) (cut 0 c.args.text.now c.args.tokens.now c.loop-i.i _ c.utf8.text c.requires (omega arith)) in
    omega (arith, t.before)

pub range-requires-clause-start_boundary : goal.range-requires-clause-start_boundary
range-requires-clause-start_boundary c = λ _.
    let t = subst (IsCut c.args.text.now) (sym c.index-tokens-i.is) (cut 0 c.args.text.now c.args.tokens.now c.loop-i.i _ c.utf8.text c.requires (omega arith)) in
    t.from

pub range-requires-clause-end_boundary : goal.range-requires-clause-end_boundary
range-requires-clause-end_boundary c =
    let t = subst (IsCut c.args.text.now) (sym c.index-tokens-i.is) (cut 0 c.args.text.now c.args.tokens.now c.loop-i.i _ c.utf8.text c.requires (omega arith)) in
    t.upto

pub loop-i-preserved : goal.loop-i-preserved
loop-i-preserved c =
    join_written (slice_of c.args.text.now) (codes " ") c.args.tokens.now c.loop-i.i c.index-tokens-i.result _ _ _ _ _
    (omega arith) c.index-tokens-i.is c.loop-i.invariant c.in_ok-push_separator.ensures (c.in_ok-push_text.ensures ∙ ap (λ t. string_bytes c.push_separator.new.out ++ t) c.range.ensures.value)
