use Rattle.std.proofs.Common.{arith, sym, subst}
use Rattle.ct_equality.{specs.Forest.IsWayUp, proofs.Forests.written}
use Rattle.ct_equality.proofs.forest.find.Goals as goal

pub returns : goal.returns
returns c =
    let old = c.args.parents.now.items in
    let new = c.first.new.parents in
    let up = subst (λ l. IsWayUp l new c.args.place c.first.result) c.as_mut_slice.ensures.value c.first.ensures in
    let ok = c.args.parents.now.ok.0 in
    subst (λ l. IsWayUp old l c.args.place c.first.result) (sym (written c.args.parents.now.len new old up.way.count (omega (arith, ok)))) up
