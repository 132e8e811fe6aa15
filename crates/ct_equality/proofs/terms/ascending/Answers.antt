use Rattle.std.proofs.Common.{subst, IsPermutation}
use Rattle.ct_equality.{proofs.Listed.sorted_terms, proofs.Indexed.distinct_places}
use Rattle.ct_equality.proofs.terms.ascending.Goals as goal

pub returns : goal.returns
returns c =
    let same = c.in_ok-sorted.ensures.items_if_clones_equal (λ x y e. e) in
    sorted_terms c.args.atoms.now c.args.places.now c.sort_unstable.new.self.items (distinct_places c.args.places.now c.requires.distinct)
    (subst (λ l. IsPermutation l c.sort_unstable.new.self.items) same c.sort_unstable.ensures.permutation) c.sort_unstable.ensures.sorted c.requires.all
