use Rattle.std.proofs.Common.{◌≡◌, ◌+◌, ◌-◌, length, ap, sym, ◌∙◌, arith}
use Rattle.std.specs.Ordering.{is_eq}
use Rattle.ct_rewrite.specs.Order.{null_order}
use Rattle.ct_tidy.proofs.Last.{ends_at}
use Rattle.ct_tidy.proofs.order.ends_with.Goals as goal

pub returns : goal.returns
returns c =
    let k = length c.args.world.now - 1 in
    let count : k + 1 ≡ length c.args.world.now = omega (arith, c.if-count-eq0.false) in
    c.is_eq.ensures ∙ ap is_eq c.compare_nulls.ensures ∙ ap (λ p. is_eq (null_order p.0 c.args.null.now)) (sym c.index-world-count.is)
    ∙ ends_at c.args.world.now c.args.null.now c.index-world-count.result k count c.index-world-count.is
