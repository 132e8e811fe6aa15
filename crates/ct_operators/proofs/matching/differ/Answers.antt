use Rattle.std.{proofs.Common.{[], ◌∙◌, length, sym, rules}, proofs.lemmas.Slice.Zip.zip_turn}
use Rattle.ct_condition.proofs.Truths.{apart_differ}
use Rattle.ct_operators.proofs.Comparing.{worth_apart}
use Rattle.ct_operators.proofs.matching.differ.Goals as goal

pub returns-then-are_apart : goal.returns-then-are_apart
returns-then-are_apart c e v =
    let t = zip_turn c.args.left.now c.args.right.now c.loop-s.yielded _ _ c.next.new.self _ (search rules) (search rules) c.loop-s.yielded_by (c.in-Some.s, c.in-Some.t) c.in-Some.is c.next.ensures.steps in
    worth_apart c.args.words.now v c.args.left.now c.args.right.now (length c.loop-s.yielded) c.in-Some.s.now c.in-Some.t.now t.0 t.1 (t.2 c.in-Some.s.now) (t.3 c.in-Some.t.now)
    (apart_differ c.args.words.now c.in-Some.s.now c.in-Some.t.now c.requires.formed (sym c.are_apart.ensures ∙ c.if-are_apart.true) v [])
