use Rattle.std.proofs.Common.{◌≡◌, ◌∷◌, map, take}
use Rattle.ct_word.specs.declared.values.CRow.{CRow}
use Rattle.ct_statement.proofs.printing.roots.Given as goal

abbrev pub invariant-loop-row : goal.invariant-loop-row
invariant-loop-row l = l.places.items ≡ l.global ∷ map (λ (r : CRow). r.cond) (take l.row-index l.rows)
