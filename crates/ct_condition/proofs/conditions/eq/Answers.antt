use Rattle.std.{proofs.Common.{◌∙◌, ap, sym}, proofs.lemmas.Result.IfOk-weaker}
use Rattle.ct_word.proofs.Prefixes.{place_within}
use Rattle.ct_condition.{specs.Folding.folded_eq, proofs.Denied.below_folded_eq, proofs.Pairs.{together, equal_put}, proofs.Reached.{both_of, put_either}}
use Rattle.ct_condition.proofs.Ops.{put_eq, eq_folded}
use Rattle.ct_word.specs.declared.kinds.Class.TheVariants as class
use Rattle.ct_condition.proofs.conditions.eq.Goals as goal

pub returns-in-None-clause-truth : goal.returns-in-None-clause-truth
returns-in-None-clause-truth g c =
    together c.pair.result _ _ _ _
    (λ place stands is small. equal_put (g.I.Interner.list c.args.pass.now) (g.I.Interner.list c.pair.new.pass) c.pair.ensures.writes.longer place is small c.args.s c.args.t c.requires.left c.requires.right stands)
    c.pair.ensures.stands c.pair.ensures.place c.pair.ensures.small

pub returns-in-None-clause-terms : goal.returns-in-None-clause-terms
returns-in-None-clause-terms g c =
    let old = g.I.Interner.list c.args.pass.now in
    both_of c.pair.result _ _ _
    (λ place is from. put_either old (g.I.Interner.list c.pair.new.pass) c.pair.ensures.writes.longer c.pair.ensures.writes.formed place is c.args.s c.args.t
    (place_within old class.Term c.args.s c.requires.left) (place_within old class.Term c.args.t c.requires.right) from)
    c.pair.ensures.place c.pair.ensures.terms

pub returns-in-Some-clause-terms : goal.returns-in-Some-clause-terms
returns-in-Some-clause-terms g c =
    below_folded_eq (g.I.Interner.list c.args.pass.now) c.words.ensures.formed c.words.ensures.begins c.args.s c.args.t c.in-Some.place
    (sym (c.in-Some.ensures.value ∙ ap (λ ws. folded_eq ws c.args.s c.args.t) c.words.ensures.words))

pub returns-in-None-clause-ops : goal.returns-in-None-clause-ops
returns-in-None-clause-ops g c =
    IfOk-weaker c.pair.result _ _
    (λ place stands. put_eq (g.I.Interner.list c.args.pass.now) (g.I.Interner.list c.pair.new.pass) c.pair.ensures.writes.longer place c.args.s c.args.t stands) c.pair.ensures.stands

pub returns-in-Some-clause-ops : goal.returns-in-Some-clause-ops
returns-in-Some-clause-ops g c =
    eq_folded (g.I.Interner.list c.args.pass.now) c.words.ensures.formed c.words.ensures.begins c.args.s c.args.t c.in-Some.place
    (sym (c.in-Some.ensures.value ∙ ap (λ ws. folded_eq ws c.args.s c.args.t) c.words.ensures.words))
