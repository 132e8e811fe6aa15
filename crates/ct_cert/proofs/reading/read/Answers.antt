use Rattle.std.proofs.Common.{◌≡◌, sym, ap, ◌∙◌}
use Rattle.std.proofs.lemmas.Slice.Eq.{bytes_eq-Decides}
use Rattle.std.proofs.lemmas.Bool.{false≢true}
use Rattle.ct_cert.{specs.Text.cert_text, specs.Reading.cert_in, proofs.Judged.is_memory, proofs.Texts.cert_read}
use Rattle.ct_cert.proofs.reading.read.Goals as goal

pub returns-in_err-cert-clause-none : goal.returns-in_err-cert-clause-none
returns-in_err-cert-clause-none c = λ other. absurd (is_memory _ c.from_residual.ensures.1 other)

pub returns-in_err-text-clause-none : goal.returns-in_err-text-clause-none
returns-in_err-text-clause-none c = λ other. absurd (is_memory _ c.from_residual-in_err-text.ensures.1 other)

pub returns-else-eq-clause-none : goal.returns-else-eq-clause-none
returns-else-eq-clause-none c = λ error d fit same.
    let read : cert_in c.args.bytes.now ≡ d = ap cert_in (sym same) ∙ cert_read d fit in
    let text : c.as_slice.result.now ≡ c.args.bytes.now =
    c.as_slice.ensures.value ∙ c.in_ok-text.ensures.text ∙ ap cert_text (c.in_ok-cert.ensures ∙ read) ∙ same in
    false≢true (sym c.if-eq.false ∙ c.eq.ensures ∙ (bytes_eq-Decides c.as_slice.result.now c.args.bytes.now).1 text)
