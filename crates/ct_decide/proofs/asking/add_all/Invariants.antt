use Rattle.std.{proofs.Common.{◌≡◌, ◌++◌, true, length}, specs.List.list_all, specs.Vec.Iter.{into_iter_items, into_iter_len}}
use Rattle.ct_derivation.specs.Variables.{is_clause}
use Rattle.ct_trail.specs.Log.{added_in}
use Rattle.ct_decide.proofs.asking.add_all.Given as goal

abbrev pub invariant-loop-clause : goal.invariant-loop-clause
invariant-loop-clause l =
    let rest = into_iter_items l.clause-iterator in
    record {
      vars : l.solver.vars ≡ l.fn.solver.vars;
      added : added_in l.solver.entries ++ rest ≡ added_in l.fn.solver.entries ++ l.fn.clauses.items;
      within : list_all (is_clause l.fn.solver.vars) rest ≡ true;
      count : into_iter_len l.clause-iterator ≡ length rest;
    }
