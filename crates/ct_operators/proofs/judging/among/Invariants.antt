use Rattle.std.{proofs.Common.{false, take, ◌+◌, ◌*◌, length}, specs.Prelude.{◌⊎◌}}
use Rattle.ct_condition.{specs.Writes.Writes, specs.Terms.{TermsFrom, BelowSome}}
use Rattle.ct_operators.{specs.Others.others_of, specs.Building.HoldsWhere, specs.Matching.is_among, specs.Terms.TermOfRows}
use Rattle.ct_operators.proofs.judging.among.Given as goal

abbrev pub invariant-loop-index : goal.invariant-loop-index
invariant-loop-index g l = record {
  writes : Writes g.I.Interner.list g.I.Interner.made g.I.Interner.kept g.I.Interner.lent g.N.Site.log.cap l.fn.pass l.pass (l.index * (2 * length l.cells + 1)) false;
  holds : HoldsWhere (g.I.Interner.list l.pass) l.any (is_among (g.I.Interner.list l.fn.pass) (take l.index (others_of l.others)) l.cells);
  from : TermsFrom (g.I.Interner.list l.pass) l.any (λ t. BelowSome (g.I.Interner.list l.fn.pass) l.cells t ⊎ TermOfRows (g.I.Interner.list l.fn.pass) (others_of l.others) t);
}
