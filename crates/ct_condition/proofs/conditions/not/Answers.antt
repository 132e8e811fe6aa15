use Rattle.std.{proofs.Common.{◌∙◌, ap, sym}, proofs.lemmas.Result.IfOk-weaker}
use Rattle.ct_word.proofs.Prefixes.{place_within}
use Rattle.ct_condition.{specs.Folding.folded_not, proofs.Pairs.{together, not_put}, proofs.Reached.{both_of, put_one}, proofs.Denied.below_folded_not}
use Rattle.ct_condition.proofs.Ops.{put_not, not_folded}
use Rattle.ct_word.specs.declared.kinds.Class.TheVariants as class
use Rattle.ct_condition.proofs.conditions.not.Goals as goal

pub returns-in-None-clause-truth : goal.returns-in-None-clause-truth
returns-in-None-clause-truth g c =
    together c.put.result _ _ _ _
    (λ place stands is small. not_put (g.I.Interner.list c.args.pass.now) (g.I.Interner.list c.put.new.pass) c.put.ensures.longer place is small c.args.c c.requires.condition stands)
    c.put.ensures.stands c.put.ensures.place c.put.ensures.small

pub returns-in-None-clause-terms : goal.returns-in-None-clause-terms
returns-in-None-clause-terms g c =
    let old = g.I.Interner.list c.args.pass.now in
    both_of c.put.result _ _ _
    (λ place is from. put_one old (g.I.Interner.list c.put.new.pass) c.put.ensures.longer c.put.ensures.formed place is c.args.c (place_within old class.Cond c.args.c c.requires.condition) from)
    c.put.ensures.place c.put.ensures.terms

pub returns-in-Some-clause-terms : goal.returns-in-Some-clause-terms
returns-in-Some-clause-terms g c =
    below_folded_not (g.I.Interner.list c.args.pass.now) c.words.ensures.formed c.words.ensures.begins c.args.c c.in-Some.place
    (sym (c.in-Some.ensures.value ∙ ap (λ ws. folded_not ws c.args.c) c.words.ensures.words))

pub returns-in-None-clause-ops : goal.returns-in-None-clause-ops
returns-in-None-clause-ops g c =
    let old = g.I.Interner.list c.args.pass.now in
    IfOk-weaker c.put.result _ _
    (λ place stands. put_not old (g.I.Interner.list c.put.new.pass) c.put.ensures.longer place c.args.c (place_within old class.Cond c.args.c c.requires.condition) stands) c.put.ensures.stands

pub returns-in-Some-clause-ops : goal.returns-in-Some-clause-ops
returns-in-Some-clause-ops g c =
    not_folded (g.I.Interner.list c.args.pass.now) c.words.ensures.formed c.words.ensures.begins c.args.c c.in-Some.place
    (sym (c.in-Some.ensures.value ∙ ap (λ ws. folded_not ws c.args.c) c.words.ensures.words))
