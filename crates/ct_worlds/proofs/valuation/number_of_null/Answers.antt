use Rattle.std.{proofs.Common.{◌∙◌, length, Some, None, ap, arith}, proofs.lemmas.Option.slice_get_past}
use Rattle.ct_worlds.specs.Valuation.{value_in}
use Rattle.ct_worlds.proofs.Values.{number_is}
use Rattle.ct_worlds.proofs.valuation.number_of_null.Goals as goal

pub returns-in-Some : goal.returns-in-Some
returns-in-Some c =
    let v = c.args.valuation.now in
    number_is v.listed.now v.listed.now v.numbers.entries c.args.null.now (Some c.in-Some.number.now) c.in-Some.ensures.value c.requires.numbers

pub returns-in-None : goal.returns-in-None
returns-in-None c =
    let v = c.args.valuation.now in
    ap value_in (slice_get_past v.listed.now (length v.listed.now) (omega arith)) ∙ number_is v.listed.now v.listed.now v.numbers.entries c.args.null.now None c.in-None.ensures.value c.requires.numbers
