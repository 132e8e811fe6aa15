use Rattle.std.proofs.Common.{◌≡◌, ◌+◌, ◌*◌, true, Ok, drop}
use Rattle.std.specs.Prelude.{◌⊎◌, Contains}
use Rattle.ct_word.specs.declared.values.Term.{Term}
use Rattle.ct_query.specs.Fits.{IsColumnBelow}
use Rattle.ct_condition.{specs.Places.has_place, proofs.Depth.{parts_of, parts_of_all}}
use Rattle.ct_algebra.{specs.Words.GrowsWithin, proofs.Putting.run_terms}
use Rattle.ct_algebra.proofs.literals.+put_literals.Given as goal

abbrev pub invariant-put_all_literals-loop-p : goal.invariant-put_all_literals-loop-p
invariant-put_all_literals-loop-p g l = record {
  rest : (t : Term) → Contains (run_terms (drop l.p-index l.preds)) t → Contains (run_terms l.preds) t;
  placed : (t : Term) → IsColumnBelow 0 t → Contains (run_terms l.preds) t → (has_place l.pass.words t ≡ true) ⊎ Contains (run_terms (drop l.p-index l.preds)) t;
  grows : GrowsWithin {A = Unit {0}} g.N.Site.log.cap (Ok tt) l.fn.pass l.pass (run_terms l.preds) 0;
}

abbrev pub decreases-put_literals : goal.decreases-put_literals
decreases-put_literals g l = 2 * parts_of l.p.now

abbrev pub decreases-put_all_literals : goal.decreases-put_all_literals
decreases-put_all_literals g l = 2 * parts_of_all l.preds.now + 1
