use Rattle.std.proofs.Common.{◌≡◌, ◌++◌, drop}
use Rattle.ct_resolve.specs.Statements.{cells_of, cell_terms, next_after_all}
use Rattle.ct_resolve.proofs.rows.row.Given as goal

abbrev pub invariant-loop-other : goal.invariant-loop-other
invariant-loop-other l = record {
  terms : l.terms.items ++ cell_terms l.session l.next (drop l.other-index l.written.rest) ≡ cell_terms l.session l.start (cells_of l.written);
  next : next_after_all l.next (drop l.other-index l.written.rest) ≡ next_after_all l.start (cells_of l.written);
}
