use Rattle.std.{proofs.Common.{◌≡◌, ◌++◌, drop}, specs.Prelude.{map, All}}
use Rattle.ct_remarks.specs.RefusedStatements.{case_of, cases_from, IsMarked}
use Rattle.ct_remarks.specs.Standing.{placed_of, IsSpot}
use Rattle.ct_remarks.proofs.cases.push_cases.Given as goal

abbrev pub invariant-loop-i : goal.invariant-loop-i
invariant-loop-i l =
    IsSpot l.source.script.now l.before.spot × All IsMarked l.cases.items
    × (map case_of l.cases.items ++ cases_from l.source.session l.i l.source.script.now (map placed_of l.source.texts.now) (drop l.i l.replies)
    ≡ map case_of l.initial.cases.items ++ cases_from l.source.session 0 l.source.script.now (map placed_of l.source.texts.now) l.replies)
