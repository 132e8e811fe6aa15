use Rattle.std.{proofs.Common.{◌∙◌, ap, sym}, proofs.lemmas.Result.IfOk-weaker}
use Rattle.ct_word.proofs.Prefixes.{place_within}
use Rattle.ct_condition.{specs.Folding.folded_join, proofs.Denied.below_folded_join, proofs.Pairs.{together, join_put, formed_either}}
use Rattle.ct_condition.{proofs.Reached.{both_of, put_either}, proofs.Ops.{put_join, join_folded}}
use Rattle.ct_word.specs.declared.kinds.Class.TheVariants as class
use Rattle.ct_condition.proofs.conditions.join.Goals as goal

pub pair-requires-clause-formed : goal.pair-requires-clause-formed
pair-requires-clause-formed g c = formed_either c.args.connective _ c.kind_under.ensures.kind (g.I.Interner.list c.args.pass.now) c.args.c c.args.d c.requires.left c.requires.right

pub returns-in-None-clause-truth : goal.returns-in-None-clause-truth
returns-in-None-clause-truth g c =
    together c.pair.result _ _ _ _
    (λ place stands is small. join_put (g.I.Interner.list c.args.pass.now) (g.I.Interner.list c.pair.new.pass) c.pair.ensures.writes.longer place is small c.args.connective c.args.c c.args.d c.requires.left c.requires.right stands)
    (rw c.kind_under.ensures.kind at c.pair.ensures.stands) (rw c.kind_under.ensures.class at c.pair.ensures.place) c.pair.ensures.small

pub returns-in-None-clause-terms : goal.returns-in-None-clause-terms
returns-in-None-clause-terms g c =
    let old = g.I.Interner.list c.args.pass.now in
    both_of c.pair.result _ _ _
    (λ place is from. put_either old (g.I.Interner.list c.pair.new.pass) c.pair.ensures.writes.longer c.pair.ensures.writes.formed place is c.args.c c.args.d
    (place_within old class.Cond c.args.c c.requires.left) (place_within old class.Cond c.args.d c.requires.right) from)
    (rw c.kind_under.ensures.class at c.pair.ensures.place) c.pair.ensures.terms

pub returns-in-Some-clause-terms : goal.returns-in-Some-clause-terms
returns-in-Some-clause-terms g c =
    below_folded_join (g.I.Interner.list c.args.pass.now) c.words.ensures.formed c.words.ensures.begins c.args.connective c.args.c c.args.d c.in-Some.place
    (sym (c.in-Some.ensures.value ∙ ap (λ ws. folded_join c.args.connective ws c.args.c c.args.d) c.words.ensures.words))

pub returns-in-None-clause-ops : goal.returns-in-None-clause-ops
returns-in-None-clause-ops g c =
    let old = g.I.Interner.list c.args.pass.now in
    IfOk-weaker c.pair.result _ _
    (λ place stands. put_join old (g.I.Interner.list c.pair.new.pass) c.pair.ensures.writes.longer c.args.connective place c.args.c c.args.d (place_within old class.Cond c.args.c c.requires.left) (place_within old class.Cond c.args.d c.requires.right) stands)
    (rw c.kind_under.ensures.kind at c.pair.ensures.stands)

pub returns-in-Some-clause-ops : goal.returns-in-Some-clause-ops
returns-in-Some-clause-ops g c =
    join_folded (g.I.Interner.list c.args.pass.now) c.words.ensures.formed c.words.ensures.begins c.args.connective c.args.c c.args.d c.in-Some.place
    (sym (c.in-Some.ensures.value ∙ ap (λ ws. folded_join c.args.connective ws c.args.c c.args.d) c.words.ensures.words))
