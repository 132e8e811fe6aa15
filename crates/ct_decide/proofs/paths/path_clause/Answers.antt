use Rattle.std.proofs.Common.{◌∙◌, true, List, ℤ, ap, sym, subst}
use Rattle.ct_decide.{specs.Asking.IsClauseOf, proofs.Clauses.{parts_of, end_there, clause_with_end, clause_without_end, stored}}
use Rattle.ct_decide.proofs.paths.path_clause.Goals.{then-not-are_constants+in_ok-push, else-not-are_constants}
use Rattle.ct_decide.proofs.paths.path_clause.Goals as goal

pub links-requires-clause-there : goal.links-requires-clause-there
links-requires-clause-there c = (parts_of c.args.words.now c.args.atoms.now c.args.path.now c.requires.over).links

pub literal-requires-clause-there : goal.literal-requires-clause-there
literal-requires-clause-there c =
    end_there c.args.words.now c.args.atoms.now _ _ (sym c.are_constants.ensures ∙ c.if-not-are_constants.true) (parts_of c.args.words.now c.args.atoms.now c.args.path.now c.requires.over).ends

pub returns : goal.returns
returns c =
    let words = c.args.words.now in
    let atoms = c.args.atoms.now in
    let path = c.args.path.now in
    let parts = parts_of words atoms path c.requires.over in
    let links = c.in_ok-literals.ensures in
    elim c.if-not-are_constants.branch [
      | then-not-are_constants+in_ok-push w ↦
          subst (λ (xs : List ℤ). IsClauseOf words atoms path xs) (sym (ap (λ v. v.items) w.literals-is ∙ w.in_ok-push.ensures.items ∙ stored atoms true _ _ w.literal.result c.in_ok-literals.literals.items c.requires.few w.literal.ensures))
          (clause_with_end words atoms path c.in_ok-literals.literals.items w.literal.result parts links.within links.links (sym c.are_constants.ensures ∙ w.if-not-are_constants.true) w.literal.ensures)
      | else-not-are_constants w ↦
          subst (λ (xs : List ℤ). IsClauseOf words atoms path xs) (sym (ap (λ v. v.items) w.literals-is))
          (clause_without_end words atoms path c.in_ok-literals.literals.items parts links.within links.links (sym c.are_constants.ensures ∙ w.if-not-are_constants.false))
    ]
