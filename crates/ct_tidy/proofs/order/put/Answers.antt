use Rattle.std.proofs.Common.{sym, ◌∙◌, ap}
use Rattle.ct_tidy.{specs.Order.ends_with, proofs.Last.{put_again, put_last}}
use Rattle.ct_tidy.proofs.order.put.Goals as goal

pub returns-then-ends_with : goal.returns-then-ends_with
returns-then-ends_with c =
    put_again c.args.world.now.items c.args.null c.args.value c.requires.last (ap (λ l. ends_with l c.args.null) (sym c.as_slice.ensures.value) ∙ sym c.ends_with.ensures ∙ c.if-ends_with.true)

pub returns : goal.returns
returns c =
    c.in_ok-push.ensures.items ∙ put_last c.args.world.now.items c.args.null c.args.value c.requires.ascending c.requires.last (ap (λ l. ends_with l c.args.null) (sym c.as_slice.ensures.value) ∙ sym c.ends_with.ensures ∙ c.if-ends_with.false)
