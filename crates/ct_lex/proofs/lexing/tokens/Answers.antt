use Rattle.std.{proofs.Common.{◌≢◌, ◌≤◌, IfErr, [], length, drop, Some, None, refl, subst, arith, append_assoc}, proofs.lemmas.List.append-nil}
use Rattle.std.{proofs.lemmas.Result.err_from_is_err_and, proofs.lemmas.Str.{IsCharBoundary-start, IsCharBoundary-from_rest}}
use Rattle.ct_lex.{specs.declared.token.LexError.LexError, specs.Scan.IsFront, specs.Tokens.{Lexes, FaultsAt, here}, proofs.Written.tokens_written}
use Rattle.ct_lex.{proofs.Readings.{read_tokens, read_fault, same_tokens, same_fault, never_both}, proofs.Steps.{front_lexes, front_faults, end_lexes, slices}}
use Rattle.ct_lex.specs.declared.token.LexError.TheVariants as fault
use Rattle.ct_lex.proofs.lexing.tokens.Goals as goal

-- the fault that `front` found, in the text
faulted : (c : goal.After-drop-tokens) → c.in_err-lexeme.field-0.0 ≢ fault.Memory → FaultsAt c.args.text.now c.loop-start.start c.in_err-lexeme.field-0.0
faulted c other = c.loop-start.invariant.2 _ _ (here (rw (← c.range_from.ensures.value) (c.in_err-lexeme.ensures.fault other)))

pub loop-start-init : goal.loop-start-init
loop-start-init c =
    (IsCharBoundary-start c.args.text.now c.utf8.text, λ ts lexes. rw c.new-tokens.ensures.items lexes, λ place e faults. faults)

-- what holds of the error of `front` holds of what is returned
passed : (c : goal.After-drop-tokens) (P : LexError → Type 0) → P c.in_err-lexeme.field-0.0 → IfErr c.from_residual.result P
passed c P h = let p = err_from_is_err_and c.from_residual.result c.from_residual.ensures.1 in rw (p.1, p.2) h

pub returns-in_err-lexeme-clause-error : goal.returns-in_err-lexeme-clause-error
returns-in_err-lexeme-clause-error c = passed c _ (λ other. (c.loop-start.start, read_fault (faulted c other)))

pub returns-in_err-lexeme-clause-fault : goal.returns-in_err-lexeme-clause-fault
returns-in_err-lexeme-clause-fault c = passed c _ (λ other. (c.loop-start.start, faulted c other))

pub returns-in_err-lexeme-clause-leftmost : goal.returns-in_err-lexeme-clause-leftmost
returns-in_err-lexeme-clause-leftmost c = passed c _ (λ other place f faults. same_fault (read_fault (faulted c other)) (read_fault faults))

pub returns-in_err-lexeme-clause-none : goal.returns-in_err-lexeme-clause-none
returns-in_err-lexeme-clause-none c = passed c _ (λ other ts lexes. never_both (read_tokens lexes) (read_fault (faulted c other)))

pub loop-start-preserved-in_ok-push : goal.loop-start-preserved-in_ok-push
loop-start-preserved-in_ok-push c =
    let text = c.args.text.now in
    let n = c.loop-start.start in
    let len = c.in_ok-lexeme.length in
    let front : IsFront (drop n text) len (Some c.in-Some.word) = rw (← c.range_from.ensures.value, ← c.in-Some.is) c.in_ok-lexeme.ensures.ok in (
      IsCharBoundary-from_rest text n len c.loop-start.invariant.0.0 front.cut,
      λ ts lexes. rw (c.in_ok-push.ensures.items, append_assoc c.loop-start.tokens.items) (c.loop-start.invariant.1 _ (front_lexes text n len (Some c.in-Some.word) ts front lexes)),
      λ place e faults. c.loop-start.invariant.2 place e (front_faults text n len (Some c.in-Some.word) place e front faults),
    )

pub loop-start-preserved : goal.loop-start-preserved
loop-start-preserved c =
    let text = c.args.text.now in
    let n = c.loop-start.start in
    let len = c.in_ok-lexeme.length in
    let front : IsFront (drop n text) len None = rw (← c.range_from.ensures.value, ← c.in_default.is) c.in_ok-lexeme.ensures.ok in (
      IsCharBoundary-from_rest text n len c.loop-start.invariant.0.0 front.cut,
      λ ts lexes. c.loop-start.invariant.1 ts (front_lexes text n len None ts front lexes),
      λ place e faults. c.loop-start.invariant.2 place e (front_faults text n len None place e front faults),
    )

lexed : (c : goal.After-loop-start) → Lexes c.args.text.now c.loop-start.tokens.items
lexed c =
    let past : length c.args.text.now ≤ c.loop-start.start = omega arith in
    subst (Lexes c.args.text.now) (append-nil c.loop-start.tokens.items) (c.loop-start.invariant.1 [] (end_lexes c.args.text.now c.loop-start.start past))

pub returns-clause-ok : goal.returns-clause-ok
returns-clause-ok c = lexed c

pub returns-clause-slices : goal.returns-clause-slices
returns-clause-slices c = slices [] 0 refl (omega arith) (lexed c)

pub returns-clause-written : goal.returns-clause-written
returns-clause-written c = tokens_written (lexed c)

pub returns-clause-value : goal.returns-clause-value
returns-clause-value c = read_tokens (lexed c)

pub returns-clause-only : goal.returns-clause-only
returns-clause-only c = λ ts lexes. same_tokens (read_tokens lexes) (read_tokens (lexed c))

pub returns-clause-clean : goal.returns-clause-clean
returns-clause-clean c = λ place e faults. never_both (read_tokens (lexed c)) (read_fault faults)
