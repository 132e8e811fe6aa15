use Rattle.std.{proofs.Common.{◌≡◌, [], sym, ap, ◌∙◌}, specs.Prelude.{None}}
use Rattle.ct_cert.{specs.Judgement.{bad_word, bad_proof, by_faults, judgement}, proofs.Judged.accepted_sound}
use Rattle.ct_cert.proofs.judging.judge.Goals as goal

pub returns-in-None-clause-sound : goal.returns-in-None-clause-sound
unfolding judgement
returns-in-None-clause-sound c =
    let words : bad_word [] c.args.cert.now.words ≡ None = ap (bad_word []) (sym c.as_slice-words.ensures) ∙ sym c.in_ok-place.ensures ∙ c.in_default.is in
    let proofs : bad_proof c.args.cert.now.words 1 c.args.cert.now.proofs ≡ None =
    (λ i. bad_proof (sym c.as_slice-words.ensures i) 1 (sym c.as_slice.ensures i)) ∙ sym c.in_ok-bad_proof.ensures ∙ c.in-None.is in
    λ e. accepted_sound c.args.cert.now (λ i. by_faults (words i) (proofs i))
