use Rattle.std.proofs.Common.{◌<◌, sym, subst, ◌∙◌, ap, nat_lt, reverse}
use Rattle.ct_parse.{specs.Grammar.said, specs.Nest.{DEPTH, nest_from, count_after}, proofs.Deep.deep_behind}
use Rattle.ct_parse.proofs.nest.nest_passed.Goals as goal

pub returns-then-count-gt-DEPTH : goal.returns-then-count-gt-DEPTH
returns-then-count-gt-DEPTH c =
    let opened = reverse c.loop-first.opened.items in
    let count = c.loop-first.count in
    let deep = subst (λ n. DEPTH < n) (c.in_ok-count.ensures.count ∙ ap (count_after opened count) c.turn_of.ensures) c.if-count-gt-DEPTH.true in
    sym (deep_behind opened count c.in-Some.first.now (said c.in-Some.after.now) deep) ∙ ap (λ ws. nat_lt DEPTH (nest_from opened count ws)) (sym c.in-Some.ensures.some) ∙ c.loop-first.invariant.same
