use Rattle.ct_rewrite.{proofs.Openings.{child_is_there, inserted_child}, proofs.Distinct.child_put_in, proofs.Sizes.no_more_than_inserted}
use Rattle.ct_rewrite.proofs.builder.Builder.add.Goals as goal

pub returns-then-contains-clause-members : goal.returns-then-contains-clause-members
returns-then-contains-clause-members c =
    child_is_there c.args.children.now.items _ c.args.child _ c.as_slice.ensures.value c.contains.ensures.value c.if-contains.true

pub returns-clause-members : goal.returns-clause-members
returns-clause-members c = rw c.in_ok-insert.ensures.items (inserted_child c.args.children.now.items c.partition_point-at.result c.args.child)

pub returns-clause-once : goal.returns-clause-once
returns-clause-once c = rw c.in_ok-insert.ensures.items (no_more_than_inserted c.args.children.now.items c.partition_point-at.result c.args.child)

pub returns-clause-distinct : goal.returns-clause-distinct
returns-clause-distinct c =
    rw c.in_ok-insert.ensures.items
    (child_put_in c.args.children.now.items _ c.partition_point-at.result c.args.child _ c.as_slice.ensures.value c.contains.ensures.value c.if-contains.false)
