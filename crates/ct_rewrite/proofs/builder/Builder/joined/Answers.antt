use Rattle.std.proofs.lemmas.Result.{IfOk-weaker}
use Rattle.ct_rewrite.{proofs.Results.IfOk-both, proofs.Openings.joined_says, proofs.Sizes.joined_fits, proofs.Rules.no_longer}
use Rattle.ct_rewrite.proofs.builder.Builder.joined.Goals as goal

pub gathered-requires-clause-few : goal.gathered-requires-clause-few
gathered-requires-clause-few c =
    no_longer _ _ _ _ 64 c.as_slice.ensures.value (rw c.in-Some.is at c.in_ok-children-2.ensures.once) c.in_ok-children.ensures.few

pub returns-in-Some-clause-says : goal.returns-in-Some-clause-says
returns-in-Some-clause-says c =
    IfOk-both c.gathered.result _ _ _
    (λ k. joined_says c.args.connective c.args.self.now c.gathered.new.self c.args.a c.args.b k _ _ _ _ c.as_slice.ensures.value
    c.in_ok-children.ensures.left.truth c.in_ok-children.ensures.right.truth (rw c.in-Some.is at c.in_ok-children-2.ensures.members))
    c.gathered.ensures.within c.gathered.ensures.truth

pub returns-in-Some-clause-fits : goal.returns-in-Some-clause-fits
returns-in-Some-clause-fits c =
    IfOk-weaker c.gathered.result _ _
    (λ k. joined_fits c.args.connective c.args.self.now c.gathered.new.self c.args.a c.args.b k _ _ _ _ c.as_slice.ensures.value
    c.in_ok-children.ensures.left.size c.in_ok-children.ensures.right.size
    (rw c.in-Some.is at c.in_ok-children-2.ensures.members) (rw c.in-Some.is at c.in_ok-children-2.ensures.once))
    c.gathered.ensures.size
