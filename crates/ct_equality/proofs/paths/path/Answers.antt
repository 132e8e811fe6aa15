use Rattle.std.{specs.Prelude.slice_get, proofs.Common.{◌≡◌, ◌∙◌, true, get_or, sym, ap, subst, length, arith}, proofs.lemmas.Option.{get_or_from_slice_get, slice_get_within}}
use Rattle.ct_equality.{specs.Assigned.IsWalk, specs.Terms.is_among, proofs.Joins.joined_back, proofs.Trees.{spread, among_at}}
use Rattle.ct_equality.proofs.paths.path.Goals as goal

pub place_of-at-requires : goal.place_of-at-requires
place_of-at-requires c =
    let atoms = c.args.atoms.now in
    let truth = c.args.truth.now in
    let tree = c.in_ok-tree in
    let places = tree.tree.places.items in
    let root : is_among places c.args.t ≡ true = ap (is_among places) (sym tree.ensures.root) ∙ among_at places 0 tree.ensures.tree.some in
    ap (λ l. is_among l c.args.s) tree.ensures.found ∙ spread atoms truth places c.requires.truths tree.ensures.explored (joined_back atoms truth c.requires.joined) root

pub walk-requires-clause-from : goal.walk-requires-clause-from
walk-requires-clause-from c =
    let tree = c.in_ok-tree in
    omega (arith, slice_get_within tree.tree.found.words c.place_of-at.result c.args.s c.place_of-at.ensures, ap length tree.ensures.found)

pub returns : goal.returns
returns c =
    let atoms = c.args.atoms.now in
    let truth = c.args.truth.now in
    let tree = c.in_ok-tree in
    let places = tree.tree.places.items in
    let at = c.place_of-at.result in
    let at_is = get_or_from_slice_get places at c.args.s 0 (ap (λ l. slice_get l at) (sym tree.ensures.found) ∙ c.place_of-at.ensures) in
    subst (λ t. IsWalk atoms truth c.args.s t c.in_ok-walk.field-0) tree.ensures.root (subst (λ s. IsWalk atoms truth s (get_or places 0 0) c.in_ok-walk.field-0) at_is c.in_ok-walk.ensures)
