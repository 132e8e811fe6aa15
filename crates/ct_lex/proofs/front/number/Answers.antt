use Rattle.std.{proofs.Common.{◌≡◌, ◌+◌, take, arith, ap, ◌∙◌}, specs.Prelude.nat_eq, specs.Str.Parse.ParsesSigned, proofs.lemmas.Str.IsCharBoundary-from_rest}
use Rattle.ct_lex.{proofs.Fronts.{HasDigits, has_digits, number_front, range_front}, proofs.front.number.Goals.After-parse}
use mir.Syntax.{w64}
use Rattle.ct_lex.proofs.front.number.Goals as goal

has : (c : After-parse) → HasDigits c.args.text.now c.args.sign c.run_len.result
has c =
    has_digits c.args.text.now c.args.sign c.run_len.result c.requires.digit (rw c.range_from.ensures.value at c.run_len.ensures.all) (rw c.range_from.ensures.value at c.run_len.ensures.stops)

parses : (c : After-parse) → ParsesSigned w64 10 (take (c.args.sign + c.run_len.result) c.args.text.now) c.parse.result
parses c =
    let whole : c.range.result.now ≡ take (c.args.sign + c.run_len.result) c.args.text.now = c.range.ensures.value ∙ ap (λ k. take k c.args.text.now) (omega arith) in
    rw whole at c.parse.ensures.value.0

pub returns-in-Ok-clause-ok : goal.returns-in-Ok-clause-ok
returns-in-Ok-clause-ok c =
    let here = (goal.at.returns-in-Ok-clause-ok c).After-parse in
    let cut = IsCharBoundary-from_rest c.args.text.now c.args.sign c.run_len.result (omega (arith, c.range_from.ensures.len)) (rw c.range_from.ensures.value at c.run_len.ensures.cut) in
    number_front c.args.text.now c.args.sign c.run_len.result (nat_eq c.args.sign 1) c.in-Ok.n c.parse.result c.requires.sign (has here) cut c.in-Ok.is (parses here)

pub returns-in-Err-clause-fault : goal.returns-in-Err-clause-fault
returns-in-Err-clause-fault c =
    let here = (goal.at.returns-in-Err-clause-fault c).After-parse in
    range_front c.args.text.now c.args.sign c.run_len.result (nat_eq c.args.sign 1) c.in-Err.field-0 c.parse.result c.requires.sign (has here) c.in-Err.is (parses here)
