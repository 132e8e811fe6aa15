use Rattle.std.{proofs.Common.{◌≡◌, take, true, ◌++◌}, specs.List.list_all}
use Rattle.ct_derivation.{specs.Literal.has, specs.Path.ends_clause}
use Rattle.ct_checker.proofs.paths.all_in_path.Given as goal

abbrev pub invariant-loop-literal : goal.invariant-loop-literal
invariant-loop-literal l = list_all (has (l.marks.falses ++ ends_clause l.words l.first l.last)) (take l.literal-index l.clause) ≡ true
