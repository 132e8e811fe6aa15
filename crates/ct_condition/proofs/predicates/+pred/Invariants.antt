use Rattle.std.proofs.Common.{◌≡◌, ◌≤◌, ◌+◌, ◌*◌, false, take}
use Rattle.ct_query.specs.Pred.{condition_of}
use Rattle.ct_condition.{specs.Truth.{HasTruth, ops_at}, specs.Rows.on_row, specs.Runs.{run_words, run_new_words, run_ops}, specs.Folding.unit_place}
use Rattle.ct_condition.{proofs.Runs.list_under, proofs.Depth.{parts_of, parts_of_all}, specs.Terms.{TermsFrom, IsOnRowOfSome}, specs.Writes.Writes}
use Rattle.ct_condition.proofs.predicates.+pred.Given as goal

abbrev pub invariant-run-loop-p : goal.invariant-run-loop-p
invariant-run-loop-p g l = record {
  truth : HasTruth (g.I.Interner.list l.pass) l.place (λ v r. list_under l.connective (λ p. on_row (g.I.Interner.list l.fn.pass) (condition_of p) l.row v r) (take l.p-index l.list));
  terms : TermsFrom (g.I.Interner.list l.pass) l.place (IsOnRowOfSome (g.I.Interner.list l.fn.pass) l.row l.list);
  ops : ops_at (g.I.Interner.list l.pass) l.place ≤ run_ops (take l.p-index l.list);
  writes : Writes g.I.Interner.list g.I.Interner.made g.I.Interner.kept g.I.Interner.lent g.N.Site.log.cap l.fn.pass l.pass (run_words (g.I.Interner.list l.fn.pass) l.row (take l.p-index l.list)) false;
  placed : run_new_words (g.I.Interner.list l.pass) l.row (take l.p-index l.list) ≡ 0;
  first : l.p-index ≡ 0 → l.place ≡ unit_place l.connective;
}

abbrev pub decreases-pred : goal.decreases-pred
decreases-pred g l = 2 * parts_of l.p.now

abbrev pub decreases-run : goal.decreases-run
decreases-run g l = 2 * parts_of_all l.list.now + 1
