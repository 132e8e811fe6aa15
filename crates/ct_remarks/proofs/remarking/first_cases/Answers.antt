use Rattle.std.{proofs.Common.{arith, sym}, proofs.lemmas.List.{take_all, length-take-le}}
use Rattle.ct_remarks.proofs.remarking.first_cases.Goals as goal

pub slice_bounds-result-end : goal.slice_bounds-result-end
slice_bounds-result-end c = sym (length-take-le 100 c.args.cases.now (omega (arith, c.if-cases-le-LIMIT.false)))

pub returns-then-cases-le-LIMIT : goal.returns-then-cases-le-LIMIT
returns-then-cases-le-LIMIT c = sym (take_all 100 c.args.cases.now (omega (arith, c.if-cases-le-LIMIT.true)))
