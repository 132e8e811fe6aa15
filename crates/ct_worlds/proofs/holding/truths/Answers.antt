use Rattle.std.proofs.Common.{length, ap, sym, subst, arith}
use Rattle.std.proofs.lemmas.List.{length_push, take_all}
use Rattle.ct_worlds.{specs.Truths.{AreRising, HaveTruths, found_in}, proofs.Kept.truths_more}
use Rattle.ct_worlds.proofs.holding.truths.Goals as goal

pub truth-requires-clause-parts : goal.truth-requires-clause-parts
truth-requires-clause-parts c = λ p h. c.loop-place.invariant.truths p (c.requires.places.parts c.loop-place.place-index 0 p c.loop-place-test.true h)

pub truth-requires-clause-rising : goal.truth-requires-clause-rising
truth-requires-clause-rising c = subst AreRising (sym c.loop-place.invariant.places) c.requires.places.rising

pub loop-place-preserved : goal.loop-place-preserved
loop-place-preserved c =
    let known = c.loop-place.truths.known.items in
    let truth = c.in_ok-truth.truth in
    record {
      truths = truths_more c.args.words.now c.args.valuation.now.listed.now c.args.places.now c.loop-place.truths.places.now c.loop-place.place-index known c.push.new.self.items truth
          c.requires.places.rising c.loop-place.invariant.places c.loop-place-test.true c.loop-place.invariant.long c.in_ok-truth.ensures.truth c.in_ok-push.ensures.items
          c.loop-place.invariant.truths;
      places = c.loop-place.invariant.places;
      reads = c.in_ok-truth.ensures.reads;
      long = omega (arith, ap length c.in_ok-push.ensures.items, length_push known truth, c.loop-place.invariant.long);
    }

pub returns-clause-truths : goal.returns-clause-truths
returns-clause-truths c =
    subst (λ l. HaveTruths c.args.words.now c.args.valuation.now.listed.now l (found_in c.loop-place.truths)) (take_all c.loop-place.place-index c.args.places.now (omega (arith, c.loop-place-test.false)))
    c.loop-place.invariant.truths
