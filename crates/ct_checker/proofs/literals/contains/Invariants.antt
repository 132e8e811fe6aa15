use Rattle.std.{proofs.Common.{◌≡◌, take, false}, specs.List.list_any}
use Rattle.ct_derivation.specs.Literal.{same_lit}
use Rattle.ct_checker.proofs.literals.contains.Given as goal

abbrev pub invariant-loop-other : goal.invariant-loop-other
invariant-loop-other l = list_any (same_lit l.literal) (take l.other-index l.list) ≡ false
