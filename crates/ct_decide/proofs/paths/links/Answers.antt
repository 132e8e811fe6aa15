use Rattle.std.proofs.Common.{◌+◌, ◌∙◌, false, List, ℕ, ℤ, drop, get_or, sym, subst}
use Rattle.std.proofs.lemmas.List.{drop_more}
use Rattle.ct_decide.proofs.Clauses.{AreLinksSo, links_begin, links_next, stored}
use Rattle.ct_decide.proofs.paths.links.Goals as goal

pub loop-place-init : goal.loop-place-init
loop-place-init c = links_begin c.args.atoms.now c.args.first c.args.rest.now c.new-literals.result.items c.new-literals.ensures.items c.requires.there

pub loop-place-preserved : goal.loop-place-preserved
loop-place-preserved c =
    let atoms = c.args.atoms.now in
    let us = c.args.rest.now in
    let k = c.loop-place.place-index in
    let before = subst (λ (xs : List ℕ). AreLinksSo atoms c.args.first us c.loop-place.last xs c.loop-place.literals.items) (drop_more us k 0 c.loop-place-test.true) c.loop-place.invariant in
    subst (λ (xs : List ℤ). AreLinksSo atoms c.args.first us (get_or us k 0) (drop (k + 1) us) xs) (sym (c.in_ok-push.ensures.items ∙ stored atoms false c.loop-place.last (get_or us k 0) c.literal.result c.loop-place.literals.items c.requires.few c.literal.ensures))
    (links_next atoms c.args.first us c.loop-place.last (get_or us k 0) (drop (k + 1) us) c.loop-place.literals.items c.literal.result before c.literal.ensures)
