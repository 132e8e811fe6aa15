use Rattle.std.{proofs.Common.{◌≡◌, take, true}, specs.List.list_all}
use Rattle.ct_derivation.specs.Accepts.{fits_lit}
use Rattle.ct_checker.proofs.checking.all_fit.Given as goal

abbrev pub invariant-loop-literal : goal.invariant-loop-literal
invariant-loop-literal l = list_all (fits_lit l.words) (take l.literal-index l.clause) ≡ true
