use Rattle.std.{proofs.Common.{◌≡◌, take, false}, specs.List.list_any, specs.Ordering.int_eq}
use Rattle.ct_sat.proofs.units.is_in.Given as goal

abbrev pub invariant-loop-m : goal.invariant-loop-m
invariant-loop-m l = list_any (int_eq l.l) (take l.m-index l.clause) ≡ false
