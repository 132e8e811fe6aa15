use Rattle.ct_fill.proofs.Rows.{five}
use Rattle.ct_fill.proofs.scripts.push_ending.Goals as goal

pub returns : goal.returns
returns c =
    five c.args.list.now.items
    c.in_ok-format.ensures.ok c.in_ok-format-2.ensures.ok c.in_ok-format-3.ensures.ok c.in_ok-format-4.ensures.ok c.in_ok-format-5.ensures.ok
    c.in_ok-push.ensures c.in_ok-push-2.ensures c.in_ok-push-3.ensures c.in_ok-push-4.ensures c.in_ok-push-5.ensures
