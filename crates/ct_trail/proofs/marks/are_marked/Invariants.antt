use Rattle.std.{proofs.Common.{◌≡◌, take, true}, specs.List.list_all}
use Rattle.ct_trail.specs.Marks.{is_marked, mark_at}
use Rattle.ct_trail.proofs.marks.are_marked.Given as goal

abbrev pub invariant-loop-l : goal.invariant-loop-l
invariant-loop-l l = list_all (λ m. is_marked (mark_at l.marks m)) (take l.l-index l.clause) ≡ true
