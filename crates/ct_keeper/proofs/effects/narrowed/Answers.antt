use Rattle.ct_keeper.proofs.Finding.{none_below}
use Rattle.ct_keeper.proofs.effects.narrowed.Goals as goal

pub returns-clause-narrowed : goal.returns-clause-narrowed
returns-clause-narrowed g c = record {
  truth = c.in_ok-and.ensures.truth;
  terms = c.in_ok-and.ensures.terms;
  plain = none_below (g.I.Interner.list c.args.pass.now) c.words.ensures.formed c.args.cond c.requires.written c.requires.fitting;
}
