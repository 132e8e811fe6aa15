use Rattle.std.{proofs.Common.{[], take, ap, sym, subst, ◌∙◌}, specs.List.Sorted.IsSortedBy, proofs.lemmas.List.take_all, specs.Prelude.IsTrue}
use Rattle.ct_rewrite.specs.Tidy.{IsTidy, are_ascending, null_before}
use Rattle.ct_word.specs.Value.{value_of_null}
use Rattle.ct_tidy.{specs.Order.{are_up_to, with_nulls}, proofs.{Last.next_up, Ordered.{all_as_they_were, empty_part, nulls_more, part_all, some_tidy}}}
use Rattle.ct_tidy.proofs.order.put_in_order.Goals as goal

pub add-requires-clause-ascending : goal.add-requires-clause-ascending
add-requires-clause-ascending c =
    let world = c.args.world.now in
    subst (λ o. IsTrue (are_ascending o)) (sym c.loop-null.invariant) (part_all world (take c.loop-null.null-index c.as_slice-null-items.result.now) [] (empty_part world)).ascending

pub add-requires-clause-last : goal.add-requires-clause-last
add-requires-clause-last c =
    let world = c.args.world.now in
    let ns = c.as_slice-null-items.result.now in
    let ordered = subst (IsSortedBy null_before) (sym c.as_slice-null-items.ensures.value) c.in_ok-nulls.ensures.ordered in
    subst (λ o. IsTrue (are_up_to o c.null-item.result)) (sym c.loop-null.invariant) (next_up world ns c.loop-null.null-index c.null-item.result ordered c.loop-null-test.true c.null-item.is)

pub loop-null-preserved : goal.loop-null-preserved
loop-null-preserved c =
    let ns = c.as_slice-null-items.result.now in
    c.in_ok-add.ensures ∙ nulls_more c.args.world.now ns c.loop-null.null-index c.null-item.result c.loop-null.out.items c.loop-null-test.true c.null-item.is c.loop-null.invariant

pub returns-clause-tidy : goal.returns-clause-tidy
returns-clause-tidy c =
    subst IsTidy (sym (c.from_vec.ensures ∙ c.loop-null.invariant)) (some_tidy c.args.world.now (take c.loop-null.null-index c.as_slice-null-items.result.now))

pub returns-clause-same : goal.returns-clause-same
returns-clause-same c = λ n.
    let world = c.args.world.now in
    let ns = c.as_slice-null-items.result.now in
    let all = take_all c.loop-null.null-index ns c.loop-null-test.false in
    ap (λ o. value_of_null o n) (c.from_vec.ensures ∙ c.loop-null.invariant ∙ ap (with_nulls world []) (all ∙ c.as_slice-null-items.ensures.value))
    ∙ all_as_they_were world c.in_ok-nulls.nulls.items c.in_ok-nulls.ensures.all n
