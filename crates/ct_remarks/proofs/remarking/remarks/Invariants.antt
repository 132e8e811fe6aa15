use Rattle.std.{proofs.Common.take, specs.Prelude.map, specs.List.AllZip}
use Rattle.ct_remarks.specs.{RefusedStatements.case_of, Remarks.IsRemark}
use Rattle.ct_remarks.proofs.remarking.remarks.Given as goal

abbrev pub invariant-loop-case : goal.invariant-loop-case
invariant-loop-case l = AllZip (IsRemark (map (λ n. n.now) l.names)) (map case_of (take l.case-index l.first)) l.lines.items
