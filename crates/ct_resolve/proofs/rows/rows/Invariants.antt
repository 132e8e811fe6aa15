use Rattle.std.proofs.Common.{◌≡◌, ◌∷◌, ◌++◌, drop}
use Rattle.ct_resolve.specs.Statements.{row_terms, next_after_rows}
use Rattle.ct_resolve.proofs.rows.rows.Given as goal

abbrev pub invariant-loop-other : goal.invariant-loop-other
invariant-loop-other l = record {
  terms : l.found.items ++ row_terms l.session l.next (drop l.other-index l.rest) ≡ row_terms l.session l.start (l.first ∷ l.rest);
  next : next_after_rows l.next (drop l.other-index l.rest) ≡ next_after_rows l.start (l.first ∷ l.rest);
}
