use Rattle.std.proofs.Common.{arith}
use Rattle.ct_derivation.specs.declared.steps.Proof.{Proof}
use Rattle.ct_cert.{specs.Text.proof_text, specs.Ranges.proof_fits, proofs.Lists.{text_more, fits_more}}
use Rattle.ct_cert.proofs.writing.push_proofs.Goals as goal

pub loop-proof-preserved : goal.loop-proof-preserved
loop-proof-preserved c = (
  text_more {B = Proof} (λ p. p.now) proof_text proof_fits c.args.proofs.now c.loop-proof.proof-index c.proof-item.result (omega arith) c.proof-item.is
      _ _ _ c.in_ok-push_proof.ensures.text c.loop-proof.invariant.0,
  fits_more {B = Proof} (λ p. p.now) proof_text proof_fits c.args.proofs.now c.loop-proof.proof-index c.proof-item.result (omega arith) c.proof-item.is
      c.in_ok-push_proof.ensures.fits c.loop-proof.invariant.1,
)
