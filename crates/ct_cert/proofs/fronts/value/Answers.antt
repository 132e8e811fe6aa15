use Rattle.std.proofs.Common.{ap, min, ◌+◌, ◌∙◌, arith}
use Rattle.ct_cert.proofs.Numbers.{value_more}
use Rattle.ct_cert.proofs.fronts.value.Goals as goal

pub loop-byte-preserved : goal.loop-byte-preserved
loop-byte-preserved c =
    value_more c.args.base c.loop-byte.number c.loop-byte.byte-index c.saturating_mul.result c.saturating_add-number.result c.args.digits.now
    c.requires (omega arith) c.loop-byte.invariant c.saturating_mul.ensures
    (c.saturating_add-number.ensures ∙ ap (λ d. min (c.saturating_mul.result + d) 18446744073709551615) c.worth.ensures)
