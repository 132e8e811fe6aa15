use Rattle.std.{proofs.Common.{ℕ, List, take}, specs.Prelude.All}
use Rattle.ct_certain.specs.{Own.IsOwn, Possible.ListsPossible}
use Rattle.ct_questions.specs.Roots.{AreRowRoots}
use Rattle.ct_questions.proofs.rows.possible_list.Given as goal

abbrev pub invariant-loop-number : goal.invariant-loop-number
invariant-loop-number l = record {
  lists : (old : List ℕ) (global : ℕ) → AreRowRoots old l.words global l.table.rows l.roots → ListsPossible old global (take l.number l.table.rows) l.list.items;
  own : (old : List ℕ) (global : ℕ) → AreRowRoots old l.words global l.table.rows l.roots → All (IsOwn old global l.table.rows) l.list.items;
}
