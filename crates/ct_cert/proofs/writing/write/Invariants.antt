use Rattle.std.proofs.Common.{◌≡◌, take, map}
use Rattle.ct_cert.proofs.writing.write.Given as goal

abbrev pub invariant-loop-proof : goal.invariant-loop-proof
invariant-loop-proof l = map (λ p. p.now) l.proofs.items ≡ take l.proof-index l.cert.proofs
