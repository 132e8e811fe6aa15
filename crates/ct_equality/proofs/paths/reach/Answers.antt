use Rattle.std.proofs.Common.{length, arith, sym, ap, ◌∙◌}
use Rattle.ct_equality.{specs.Terms.is_among, proofs.Rooms.{few, room_more, tree_there}, proofs.Indexed.among_there}
use Rattle.ct_equality.proofs.paths.reach.Goals as goal

pub push-requires-clause-room : goal.push-requires-clause-room
push-requires-clause-room c =
    let room = c.requires.room in
    let more = room_more c.args.atoms.now c.args.truth.now c.args.tree.now.places.items c.args.tree.now.found.words c.args.tree.now.origins.items c.args.place c.args.origin c.requires.tree room.same c.in_default.ensures c.requires.origin c.requires.link in
    omega (arith, more, ap length room.same, room.enough)

pub overflow_cast-origin : goal.overflow_cast-origin
overflow_cast-origin c =
    omega (arith, few c.args.atoms.now c.args.truth.now c.args.tree.now.places.items c.args.tree.now.origins.items c.requires.tree, c.requires.origin, c.requires.room.enough, c.requires.room.short)

pub returns-clause-tree : goal.returns-clause-tree
returns-clause-tree c =
    rw (c.in_ok-push.ensures.items, c.in_ok-push-2.ensures.items)
    (tree_there c.args.atoms.now c.args.truth.now c.args.tree.now.places.items c.args.tree.now.found.words c.args.tree.now.origins.items c.args.place c.args.origin c.requires.tree c.requires.room.same c.in_default.ensures c.requires.origin c.requires.link)

pub returns-in-Some-clause-reached : goal.returns-in-Some-clause-reached
returns-in-Some-clause-reached c =
    ap (λ l. is_among l c.args.place) (sym c.requires.room.same) ∙ among_there c.args.tree.now.found.words c.in-Some.field-0 c.args.place c.in-Some.ensures
