use Rattle.std.proofs.Common.{false, take}
use Rattle.ct_condition.{specs.Truth.{HasTruth, all_at}, specs.Terms.{TermsFrom, BelowSome}, specs.Writes.Writes}
use Rattle.ct_condition.proofs.conditions.all.Given as goal

abbrev pub invariant-loop-c : goal.invariant-loop-c
invariant-loop-c g l = record {
  truth : HasTruth (g.I.Interner.list l.pass) l.place (all_at (g.I.Interner.list l.fn.pass) (take l.c-index l.list));
  terms : TermsFrom (g.I.Interner.list l.pass) l.place (BelowSome (g.I.Interner.list l.fn.pass) l.list);
  writes : Writes g.I.Interner.list g.I.Interner.made g.I.Interner.kept g.I.Interner.lent g.N.Site.log.cap l.fn.pass l.pass l.c-index false;
}
