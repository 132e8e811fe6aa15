use Rattle.std.proofs.Common.{false, ◌≡◌, take, length, ◌≤◌, ◌+◌, ◌-◌, ◌*◌, ◌++◌}
use Rattle.ct_condition.{specs.Writes.Writes, specs.Terms.{TermsFrom, BelowSome}}
use Rattle.ct_operators.{specs.Building.HoldsWhere, specs.Matching.same_worth}
use Rattle.ct_operators.proofs.matching.cells_equal.Given as goal

abbrev pub invariant-loop-s : goal.invariant-loop-s
invariant-loop-s g l = record {
  writes : Writes g.I.Interner.list g.I.Interner.made g.I.Interner.kept g.I.Interner.lent g.N.Site.log.cap l.fn.pass l.pass (2 * length l.yielded) false;
  holds : HoldsWhere (g.I.Interner.list l.pass) l.all (same_worth (g.I.Interner.list l.fn.pass) (take (length l.yielded) l.left) (take (length l.yielded) l.right));
  spare : g.I.Interner.made l.pass ≤ g.I.Interner.made l.fn.pass + (2 * length l.yielded - 1);
  none : length l.yielded ≡ 0 → l.all ≡ 0;
  from : TermsFrom (g.I.Interner.list l.pass) l.all (BelowSome (g.I.Interner.list l.fn.pass) (l.left ++ l.right));
}
