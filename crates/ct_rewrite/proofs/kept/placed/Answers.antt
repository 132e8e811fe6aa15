use Rattle.std.proofs.{lemmas.Bool.ltb-true, lemmas.List.Elements.Contains-get_or, Common.{length, ap, ◌∙◌, arith}, lemmas.List.length_push}
use Rattle.ct_rewrite.{specs.Moving.IsKept, proofs.Passing.any_of, proofs.Finding.{at_least, have_all}}
use Rattle.ct_rewrite.proofs.Moving.{step_over, step_proper, step_literals, step_kept}
use Rattle.ct_rewrite.proofs.kept.placed.Goals as goal

pub bounds-nodes-position : goal.bounds-nodes-position
bounds-nodes-position c =
    ltb-true _ _ (c.requires.inside _ (any_of c.args.reached.now _ (Contains-get_or c.args.reached.now c.loop-position.position-index 0 c.loop-position-test.true)))

pub place-requires-clause-room : goal.place-requires-clause-room
place-requires-clause-room c =
    let ks = c.args.reached.now in
    let at = c.loop-position.position-index in
    let lt = c.loop-position-test.true in
    let within = ltb-true _ _ (c.requires.inside _ (any_of ks _ (Contains-get_or ks at 0 lt))) in
    omega (arith, within, at_least ks c.requires.rising at lt, c.loop-position.invariant.room, c.requires.room)

pub place-requires-clause-ordered : goal.place-requires-clause-ordered
place-requires-clause-ordered c =
    step_over c.args.nodes.now c.loop-position.builder c.loop-position.positions c.args.reached.now c.requires.rising c.loop-position.position-index c.index-nodes-position.result
    c.requires.ordered c.requires.inside c.requires.closed c.loop-position.invariant.kept c.loop-position-test.true c.index-nodes-position.is
    c.in_ok-copy.copy c.in_ok-copy.ensures

pub place-requires-clause-proper : goal.place-requires-clause-proper
place-requires-clause-proper c =
    step_proper c.args.nodes.now c.loop-position.builder c.loop-position.positions c.args.reached.now c.requires.rising c.loop-position.position-index c.index-nodes-position.result
    c.requires.ordered c.requires.inside c.requires.closed c.loop-position.invariant.kept c.loop-position-test.true c.index-nodes-position.is
    c.in_ok-copy.copy c.in_ok-copy.ensures c.requires.distinct c.requires.proper

pub place-requires-clause-no_literals : goal.place-requires-clause-no_literals
place-requires-clause-no_literals c =
    step_literals c.args.nodes.now c.loop-position.builder c.loop-position.positions c.args.reached.now c.requires.rising c.loop-position.position-index c.index-nodes-position.result
    c.requires.ordered c.requires.inside c.requires.closed c.loop-position.invariant.kept c.loop-position-test.true c.index-nodes-position.is
    c.in_ok-copy.copy c.in_ok-copy.ensures c.requires.no_literals

pub loop-position-preserved : goal.loop-position-preserved
loop-position-preserved c =
    let loop = c.loop-position.invariant in
    let lt = c.loop-position-test.true in
    record {
      room = omega (arith, loop.room, c.in_ok-to.ensures.count);
      places = c.in_ok-push.ensures.places ∙ loop.places;
      long = omega (arith, ap length c.in_ok-push.ensures.positions, length_push c.loop-position.positions.positions c.in_ok-to.to, loop.long);
      kept =
          step_kept c.args.nodes.now c.loop-position.builder c.loop-position.positions c.args.reached.now c.requires.rising c.loop-position.position-index c.index-nodes-position.result
          c.requires.ordered c.requires.inside c.requires.closed loop.kept lt c.index-nodes-position.is
          c.in_ok-copy.copy c.in_ok-copy.ensures loop.places loop.long c.place.new.self c.push.new.self c.in_ok-to.to c.in_ok-to.ensures.grows c.in_ok-to.ensures.within c.in_ok-to.ensures.value
          c.in_ok-push.ensures.places c.in_ok-push.ensures.positions;
    }

pub returns : goal.returns
returns c = have_all (IsKept c.args.nodes.now c.loop-position.builder) c.loop-position.positions c.args.reached.now c.requires.rising c.loop-position.position-index c.loop-position.invariant.kept c.loop-position-test.false
