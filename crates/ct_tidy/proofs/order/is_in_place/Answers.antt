use Rattle.std.{proofs.Common.{◌+◌, sym, ◌∙◌, ap, arith}, specs.Ordering.is_lt}
use Rattle.ct_rewrite.specs.Order.{null_order}
use Rattle.ct_tidy.proofs.Last.{tidy_before}
use Rattle.ct_tidy.proofs.order.is_in_place.Goals as goal

pub returns : goal.returns
returns c = λ less.
    let k = c.args.at in
    let next = c.index-world-at-2 in
    let before = (λ i. is_lt (null_order c.index-world-at.result.0 (next.is i).0)) ∙ ap is_lt (sym c.compare_nulls.ensures) ∙ sym c.is_lt.ensures ∙ less in
    tidy_before c.args.world.now k (k + 1) c.index-world-at.result next.result c.requires c.index-world-at.is (omega arith) (omega (arith, c.requires, c.if-at-world.false)) next.is
    (sym c.is_zero.ensures ∙ c.if-is_zero.false) before
