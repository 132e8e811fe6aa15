use Rattle.std.{proofs.Common.take, specs.Prelude.IsTrue, specs.List.list_all}
use Rattle.ct_csv.specs.Measured.{fits_at}
use Rattle.ct_csv.proofs.measuring.first_past.Given as goal

abbrev pub invariant-loop-i : goal.invariant-loop-i
invariant-loop-i l = IsTrue (list_all (fits_at l.sizes) (take l.i l.positions))
