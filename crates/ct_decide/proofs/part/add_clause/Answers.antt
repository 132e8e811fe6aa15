use Rattle.std.proofs.Common.{◌++◌, ◌∷◌, [], ap, ◌∙◌, refl}
use Rattle.ct_decide.proofs.Parts.{clause_put}
use Rattle.ct_decide.proofs.part.add_clause.Goals as goal

pub returns : goal.returns
returns c =
    let told = c.in_ok-clause.ensures in
    clause_put c.args.words.now c.args.aim c.clause.new.part _ c.in_ok-clause.clause.items c.args.literals.now c.args.why told.part told.within told.clause c.requires.why refl
    (c.in_ok-push.ensures.items ∙ ap (λ x. c.clause.new.part.posed.clauses.items ++ x ∷ []) c.from_vec.ensures)
    c.in_ok-push-2.ensures.items refl
