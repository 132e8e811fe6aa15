use Rattle.std.proofs.Common.{arith, sym, subst}
use Rattle.ct_equality.{specs.Forest.IsJoining, proofs.Joining.joining_none}
use Rattle.ct_equality.proofs.forest.alone.Goals as goal

pub returns : goal.returns
returns c =
    let same = c.in_ok-to_vec.ensures.items_if_clones_equal (λ x y e. e) in
    let inv = c.loop-i.invariant in
    subst (λ l. IsJoining c.args.words.now c.args.atoms.now c.args.truth.now 0 c.args.places.now c.loop-i.parents.items l) (sym same)
    (joining_none c.args.words.now c.args.atoms.now c.args.truth.now c.args.places.now c.loop-i.parents.items c.requires.distinct
    (let l = inv.0 in let a = c.loop-i.auto.i-end in let b = c.loop-i-test.false in omega (arith, l, a, b)) (λ j lt. inv.1 j (let b = c.loop-i-test.false in omega (arith, lt, b))))
