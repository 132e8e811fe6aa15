use Rattle.std.proofs.Common.{arith}
use Rattle.ct_cert.proofs.Texts.{few_words}
use Rattle.ct_run.proofs.checking.check.Goals as goal

pub print_verdict-requires : goal.print_verdict-requires
print_verdict-requires g c = record { few = omega (arith, few_words c.in-Ok.cert, c.in-Ok.ensures.ok.small.short) }
