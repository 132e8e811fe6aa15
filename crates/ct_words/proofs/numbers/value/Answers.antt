use Rattle.std.proofs.Common.{◌<◌, ◌≤◌, ◌-◌, length, get_or, arith}
use Rattle.ct_words.proofs.Digits.{few, digits, digit_at, few_digits, one_more, value_more}
use Rattle.ct_words.proofs.numbers.value.Goals as goal

pub overflow_mul-number : goal.overflow_mul-number
overflow_mul-number c =
    let i = c.loop-digit.digit-index in
    let short : i < 7 = omega (arith, few c.args.digits.now c.requires) in
    omega (arith, few_digits c.loop-digit.number i c.loop-digit.invariant.1 short)

pub overflow_add-number : goal.overflow_add-number
overflow_add-number c =
    let i = c.loop-digit.digit-index in
    let ds = c.args.digits.now in
    let short : i < 7 = omega (arith, few ds c.requires) in
    let here : i < length ds = omega arith in
    let digit = digit_at ds i (digits ds c.requires) here in
    omega (arith, few_digits c.loop-digit.number i c.loop-digit.invariant.1 short, digit.1)

pub loop-digit-preserved : goal.loop-digit-preserved
loop-digit-preserved c =
    let i = c.loop-digit.digit-index in
    let ds = c.args.digits.now in
    let here : i < length ds = omega arith in
    let digit = digit_at ds i (digits ds c.requires) here in
    let nine : get_or ds i 0 - 48 ≤ 9 = omega (arith, digit.1) in (
      value_more ds c.loop-digit.number i (digits ds c.requires) here c.loop-digit.invariant.0,
      one_more c.loop-digit.number i (get_or ds i 0 - 48) c.loop-digit.invariant.1 nine,
    )
