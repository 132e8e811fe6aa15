use Rattle.std.{proofs.Common.{◌≡◌, true, take}, specs.List.list_all}
use Rattle.ct_equality.specs.Assigned.{is_plain_atom}
use Rattle.ct_search_tests.proofs.tests.equality.are_plain.Given as goal

abbrev pub invariant-loop-atom : goal.invariant-loop-atom
invariant-loop-atom l = list_all (is_plain_atom l.words) (take l.atom-index l.atoms) ≡ true
