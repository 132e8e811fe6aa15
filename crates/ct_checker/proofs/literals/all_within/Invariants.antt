use Rattle.std.{proofs.Common.{◌≡◌, take, true}, specs.List.list_all}
use Rattle.ct_derivation.specs.Literal.{has}
use Rattle.ct_checker.proofs.literals.all_within.Given as goal

abbrev pub invariant-loop-literal : goal.invariant-loop-literal
invariant-loop-literal l = list_all (has l.others) (take l.literal-index l.list) ≡ true
