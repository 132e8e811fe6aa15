use Rattle.std.{proofs.Common.{subst, sym}, specs.Prelude.OnOk}
use Rattle.ct_near.{specs.Walks.IsEntered, proofs.Steps.entered_any}
use Rattle.ct_near.proofs.walking.enter.Goals as goal

pub returns-in-All : goal.returns-in-All
returns-in-All c =
    let old = c.args.found.now in
    let index = c.enter_any.new.index in
    subst (λ w. OnOk c.enter_any.result (IsEntered c.args.words.now w c.args.place c.args.waiting.now.items c.enter_any.new.waiting.items old (record { inner = old.inner; leaves = old.leaves; index = index })))
    (sym c.in-All.is)
    (entered_any c.args.words.now c.in-All.conjunct c.args.place c.args.waiting.now.items c.enter_any.new.waiting.items old index c.enter_any.result c.enter_any.ensures.grown
    c.enter_any.ensures.added c.enter_any.ensures.listed)
