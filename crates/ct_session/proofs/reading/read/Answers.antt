use Rattle.std.proofs.Common.{◌≡◌, ◌≢◌, List, sym, subst}
use Rattle.ct_lex.{specs.declared.token.Token.Token, specs.Tokens.Lexes}
use Rattle.ct_transcript.specs.declared.reply.Refusal.{Refusal}
use Rattle.ct_transaction.specs.Statements.{IsTextFault}
use Rattle.ct_session.proofs.Readings.{lexical_fault, no_text_fault, grammatical_fault, grammatical_first}
use Rattle.ct_transcript.specs.declared.reply.Refusal.TheVariants as refusal
use Rattle.ct_session.proofs.reading.read.Goals as goal

pub returns-in-Err-clause-fault : goal.returns-in-Err-clause-fault
returns-in-Err-clause-fault c =
    subst (λ why. why ≢ refusal.Memory → IsTextFault c.args.text.now why) (sym c.lexical.ensures)
    (lexical_fault c.args.text.now c.in-Err.e c.in-Err.ensures.fault)

pub returns-in-Ok-statement-clause-clean : goal.returns-in-Ok-statement-clause-clean
returns-in-Ok-statement-clause-clean c =
    let text = c.args.text.now in
    let same = sym c.as_slice.ensures.value in
    no_text_fault text c.as_slice.result.now (subst (Lexes text) same c.in-Ok.ensures.ok) (subst (λ ts. (us : List Token) → Lexes text us → us ≡ ts) same c.in-Ok.ensures.only)
    c.in-Ok.ensures.clean c.in-Ok-statement.ensures.shallow c.in-Ok-statement.statement c.in-Ok-statement.ensures.ok

pub returns-clause-fault : goal.returns-clause-fault
returns-clause-fault c =
    let text = c.args.text.now in
    let same = sym c.as_slice.ensures.value in
    subst (λ why. why ≢ refusal.Memory → IsTextFault text why) (sym c.grammatical.ensures)
    (grammatical_fault text c.as_slice.result.now (subst (Lexes text) same c.in-Ok.ensures.ok) (subst (λ ts. (us : List Token) → Lexes text us → us ≡ ts) same c.in-Ok.ensures.only)
    c.in-Ok.ensures.clean c.in-Err-statement.e c.in-Err-statement.ensures.deep c.in-Err-statement.ensures.not_deep c.in-Err-statement.ensures.none)

pub returns-clause-first : goal.returns-clause-first
returns-clause-first c =
    let text = c.args.text.now in
    let same = sym c.as_slice.ensures.value in
    subst (λ why. why ≢ refusal.Memory → (other : Refusal) → IsTextFault text other → other ≡ why) (sym c.grammatical.ensures)
    (grammatical_first text c.as_slice.result.now (subst (Lexes text) same c.in-Ok.ensures.ok) (subst (λ ts. (us : List Token) → Lexes text us → us ≡ ts) same c.in-Ok.ensures.only)
    c.in-Ok.ensures.clean c.in-Err-statement.e c.in-Err-statement.ensures.deep c.in-Err-statement.ensures.not_deep c.in-Err-statement.ensures.none)
