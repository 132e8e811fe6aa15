use Rattle.std.proofs.Common.{◌∙◌, ap}
use Rattle.ct_parse.proofs.TermSteps.{equal_reads, unequal_reads}
use Rattle.ct_lex.specs.declared.token.Lexeme.TheVariants as lexeme
use Rattle.ct_parse.proofs.terms.comparison.Goals as goal

pub returns-in-Some-Symbol-Equal-default-clause-ok : goal.returns-in-Some-Symbol-Equal-default-clause-ok
returns-in-Some-Symbol-Equal-default-clause-ok c =
    let p = c.in-Some-Symbol-Equal-default in
    equal_reads p.ensures.some (p.field-0-0-is ∙ ap lexeme.Symbol p.field-0-0-0-is)

pub returns-in-Some-Symbol-Unequal-default-clause-ok : goal.returns-in-Some-Symbol-Unequal-default-clause-ok
returns-in-Some-Symbol-Unequal-default-clause-ok c =
    let p = c.in-Some-Symbol-Unequal-default in
    unequal_reads p.ensures.some (p.field-0-0-is ∙ ap lexeme.Symbol p.field-0-0-0-is)
