use Rattle.std.proofs.Common.{◌+◌, ◌<◌, ◌^◌, length, get_or, ap, arith, rules}
use Rattle.std.specs.Prelude.{Contains}
use Rattle.ct_cnf.{proofs.Steps.numbered_few}
use Rattle.ct_cnf.proofs.numbers.number.Goals as goal

pub overflow_cast-len : goal.overflow_cast-len
overflow_cast-len c =
    let small : c.len.result < 2 ^ 32 =
    omega (arith, c.len.ensures, numbered_few _ _ _ _ _ c.loop-p.invariant (omega (arith, c.loop-p-test.true, ap length c.as_slice-p-items.ensures.value)), c.requires.few) in
    search rules

pub overflow_add-len : goal.overflow_add-len
overflow_add-len c =
    let small : c.len.result + 1 < 2 ^ 32 =
    omega (arith, c.len.ensures, numbered_few _ _ _ _ _ c.loop-p.invariant (omega (arith, c.loop-p-test.true, ap length c.as_slice-p-items.ensures.value)), c.requires.few) in
    search rules

pub add_atoms-requires : goal.add_atoms-requires
add_atoms-requires c =
    let listed : Contains c.args.conditions.items (get_or c.as_slice-p-items.result.now c.loop-p.p-index 0) = search rules in
    c.requires.within _ listed
