use Rattle.std.proofs.Common.{◌≡◌, ◌+◌, drop}
use Rattle.ct_cert.specs.Judgement as judged
use Rattle.ct_cert.proofs.judging.bad_proof.Given as goal

abbrev pub invariant-loop-i : goal.invariant-loop-i
invariant-loop-i l = judged.bad_proof l.words (l.i + 1) (drop l.i l.proofs) ≡ judged.bad_proof l.words 1 l.proofs
