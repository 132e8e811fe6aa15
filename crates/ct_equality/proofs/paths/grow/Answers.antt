use Rattle.std.{proofs.Common.{◌≡◌, ◌∙◌, sym, ap, subst, length, get_or, arith}, proofs.lemmas.List.get_or_read, proofs.lemmas.Option.{slice_get_within, get_or_from_slice_get}}
use Rattle.ct_equality.{specs.Assigned.IsLink, specs.Terms.is_among, specs.Trees.LeadsInto, proofs.Joins.link_back, proofs.Trees.{at_more, longer, grown, grown_none, grown_all}}
use Rattle.ct_equality.proofs.paths.grow.Goals as goal

pub overflow_add-from : goal.overflow_add-from
overflow_add-from c = omega (arith, slice_get_within c.args.ends.now.keys.keys c.in-Some.i _ c.in-Some.ensures.stands, c.requires.few)

pub loop-i-init : goal.loop-i-init
loop-i-init c = record {
  growing = grown_none c.args.atoms.now c.args.truth.now c.args.ends.now.keys.keys c.args.ends.now.others.items c.index-place.result.now c.args.tree.now.places.items c.args.tree.now.origins.items c.requires.tree;
  room = c.requires.room;
}

pub loop-i-smaller : goal.loop-i-smaller
loop-i-smaller c = omega (arith, slice_get_within c.args.ends.now.keys.keys c.in-Some.i _ c.in-Some.ensures.stands, c.in-Some.ensures.past)

pub reach-requires-clause-origin : goal.reach-requires-clause-origin
reach-requires-clause-origin c = omega (arith, longer c.args.tree.now.places.items c.loop-i.tree.places.items c.loop-i.invariant.growing.extends, c.requires.at)

pub reach-requires-clause-link : goal.reach-requires-clause-link
reach-requires-clause-link c =
    let atoms = c.args.atoms.now in
    let truth = c.args.truth.now in
    let keys = c.args.ends.now.keys.keys in
    let others = c.args.ends.now.others.items in
    let start = c.args.tree.now.places.items in
    let i = c.in-Some.i in
    let place = c.index-place.result.now in
    let within = slice_get_within keys i place c.in-Some.ensures.stands in
    let key_is : get_or keys i 0 ≡ place = get_or_from_slice_get keys i place 0 c.in-Some.ensures.stands in
    let other_is = get_or_read others i c.index.result.now (omega (arith, within, c.requires.ends.count)) c.index.ensures 0 in
    let place_is = get_or_read start c.args.at place c.requires.at c.index-place.ensures 0 in
    let link = link_back atoms truth (get_or keys i 0) (get_or others i 0) (c.requires.ends.links i within) in
    subst (λ t. IsLink atoms truth t (get_or c.loop-i.tree.places.items c.args.at 0)) (sym other_is)
    (subst (λ t. IsLink atoms truth (get_or others i 0) t) (key_is ∙ place_is ∙ sym (at_more start c.loop-i.tree.places.items c.args.at c.loop-i.invariant.growing.extends c.requires.at)) link)

pub loop-i-preserved : goal.loop-i-preserved
loop-i-preserved c =
    let keys = c.args.ends.now.keys.keys in
    let others = c.args.ends.now.others.items in
    let i = c.in-Some.i in
    let place = c.index-place.result.now in
    let within = slice_get_within keys i place c.in-Some.ensures.stands in
    let other_is = get_or_read others i c.index.result.now (omega (arith, within, c.requires.ends.count)) c.index.ensures 0 in
    let reached = c.in_ok-reach.ensures in
    record {
      growing = grown c.args.atoms.now c.args.truth.now keys others place c.loop-i.from i c.args.tree.now.places.items c.loop-i.tree.places.items c.loop-i.tree.origins.items c.loop-i.invariant.growing c.in-Some.ensures
          c.reach.new.tree.places.items c.reach.new.tree.origins.items reached.tree reached.extends (ap (is_among c.reach.new.tree.places.items) (sym other_is) ∙ reached.reached);
      room = reached.room;
    }

pub returns-clause-reached : goal.returns-clause-reached
returns-clause-reached c =
    let atoms = c.args.atoms.now in
    let truth = c.args.truth.now in
    let start = c.args.tree.now.places.items in
    let place = c.index-place.result.now in
    subst (λ p. LeadsInto atoms truth (length atoms) p c.loop-i.tree.places.items) (get_or_read start c.args.at place c.requires.at c.index-place.ensures 0)
    (grown_all atoms truth c.args.ends.now.keys.keys c.args.ends.now.others.items place c.loop-i.from start c.loop-i.tree.places.items c.loop-i.tree.origins.items c.requires.ends c.loop-i.invariant.growing c.in_default.ensures)
