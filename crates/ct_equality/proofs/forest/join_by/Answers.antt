use Rattle.std.{proofs.lemmas.Option.get_or_from_slice_get}
use Rattle.ct_equality.proofs.forest.join_by.Goals as goal

pub returns-clause-joined : goal.returns-clause-joined
returns-clause-joined c = λ ms forest.
    let us = c.args.found.now.words in
    let e = get_or_from_slice_get us c.place_of-i.result c.in-Same.s 0 c.place_of-i.ensures in
    let f = get_or_from_slice_get us c.place_of-j.result c.in-Same.t 0 c.place_of-j.ensures in
    rw (c.in-Same.is, c.if-not-is_true.false) (rw (e, f) at (c.join.ensures.step us ms forest).forest)
