use Rattle.std.{proofs.Common.{true, false, ap, sym, ◌∙◌, arith}, proofs.lemmas.List.drop_all}
use Rattle.ct_resolve.proofs.Distinct.{are_new, distinct_is, is_new_if}
use Rattle.ct_resolve.proofs.rows.are_distinct.Goals as goal

pub loop-name-init : goal.loop-name-init
loop-name-init c = rw c.new-seen.ensures.empty (distinct_is c.args.names.now)

pub returns-then-not-branch-clause-ok : goal.returns-then-not-branch-clause-ok
returns-then-not-branch-clause-ok c =
    sym (is_new_if c.loop-name.seen.keys c.args.names.now c.loop-name.name-index c.name-item.result c.in_ok-clone.field-0 false c.name-item.is
    c.loop-name-test.true c.in_ok-clone.ensures.cases (sym c.if-not-branch.true ∙ c.in_ok-insert.ensures.added) c.loop-name.invariant)

pub loop-name-preserved : goal.loop-name-preserved
loop-name-preserved c =
    rw c.in_ok-insert.ensures.keys (is_new_if c.loop-name.seen.keys c.args.names.now c.loop-name.name-index c.name-item.result c.in_ok-clone.field-0 true c.name-item.is
    c.loop-name-test.true c.in_ok-clone.ensures.cases (sym c.if-not-branch.false ∙ c.in_ok-insert.ensures.added) c.loop-name.invariant)

pub returns-clause-ok : goal.returns-clause-ok
returns-clause-ok c = sym (c.loop-name.invariant ∙ ap (are_new c.loop-name.seen.keys) (drop_all c.loop-name.name-index c.args.names.now (omega arith)))
