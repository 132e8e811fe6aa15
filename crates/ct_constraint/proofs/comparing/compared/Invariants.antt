use Rattle.std.proofs.Common.{false, not, ◌*◌, ◌++◌}
use Rattle.ct_condition.{specs.Writes.Writes, specs.Terms.{TermsFrom, BelowSome}}
use Rattle.ct_operators.{specs.Building.HoldsWhere, specs.Placing.tuple_of}
use Rattle.ct_constraint.specs.Comparing.{is_in, same_below}
use Rattle.ct_constraint.proofs.comparing.compared.Given as goal

abbrev pub invariant-loop-k : goal.invariant-loop-k
invariant-loop-k g l = record {
  writes : Writes g.I.Interner.list g.I.Interner.made g.I.Interner.kept g.I.Interner.lent g.N.Site.log.cap l.fn.pass l.pass (l.k * 3) false;
  inside : HoldsWhere (g.I.Interner.list l.pass) l.inside
      (λ v. same_below l.k (is_in l.columns) (tuple_of (g.I.Interner.list l.fn.pass) l.left v) (tuple_of (g.I.Interner.list l.fn.pass) l.right v));
  outside : HoldsWhere (g.I.Interner.list l.pass) l.outside
      (λ v. same_below l.k (λ k. not (is_in l.columns k)) (tuple_of (g.I.Interner.list l.fn.pass) l.left v) (tuple_of (g.I.Interner.list l.fn.pass) l.right v));
  inside_from : TermsFrom (g.I.Interner.list l.pass) l.inside (BelowSome (g.I.Interner.list l.fn.pass) (l.left ++ l.right));
  outside_from : TermsFrom (g.I.Interner.list l.pass) l.outside (BelowSome (g.I.Interner.list l.fn.pass) (l.left ++ l.right));
}
