use Rattle.std.{proofs.Common.{◌≡◌, ◌++◌, drop}, specs.Prelude.{map, All}}
use Rattle.ct_remarks.specs.RefusedStatements.{case_of, cases, IsMarked}
use Rattle.ct_remarks.proofs.cases.refused_statements.Given as goal

abbrev pub invariant-loop-session : goal.invariant-loop-session
invariant-loop-session l = All IsMarked l.cases.items × (map case_of l.cases.items ++ cases l.session (drop l.session l.sessions) ≡ cases 0 l.sessions)
