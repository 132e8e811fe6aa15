use Rattle.std.{proofs.Common.{false, not, ◌&&◌, take, ◌+◌, ◌*◌, length}, specs.Prelude.{◌⊎◌}}
use Rattle.ct_condition.{specs.Writes.Writes, specs.Terms.TermsFrom}
use Rattle.ct_word.{specs.Condition.holds_at, specs.Reading.condition_at}
use Rattle.ct_operators.{specs.Others.others_of, specs.Building.HoldsWhere, specs.Matching.is_among, specs.Terms.{TermOfRow, TermOfRows}}
use Rattle.ct_operators.proofs.judging.alone.Given as goal

abbrev pub invariant-loop-index : goal.invariant-loop-index
invariant-loop-index g l = record {
  writes : Writes g.I.Interner.list g.I.Interner.made g.I.Interner.kept g.I.Interner.lent g.N.Site.log.cap l.fn.pass l.pass (l.index * (2 * length l.row.cells + 2)) false;
  holds : HoldsWhere (g.I.Interner.list l.pass) l.cond (λ v. holds_at v (condition_at (g.I.Interner.list l.fn.pass) l.row.cond) && not (is_among (g.I.Interner.list l.fn.pass) (take l.index (others_of l.others)) l.row.cells v));
  from : TermsFrom (g.I.Interner.list l.pass) l.cond (λ t. TermOfRow (g.I.Interner.list l.fn.pass) l.row t ⊎ TermOfRows (g.I.Interner.list l.fn.pass) (others_of l.others) t);
}
