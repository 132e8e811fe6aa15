use Rattle.std.{proofs.Common.{◌∙◌, sym, take_all}, specs.Prelude.IsTrue, proofs.lemmas.List.Elements.{All-more, All-same}}
use Rattle.ct_word.specs.WellFormed.{is_place_of}
use Rattle.ct_samples.proofs.places.are_places.Goals as goal

pub loop-place-preserved : goal.loop-place-preserved
loop-place-preserved c =
    All-more (λ p. IsTrue (is_place_of c.args.words.now c.args.of p)) c.args.places.now c.loop-place.place-index 0 c.loop-place-test.true c.loop-place.invariant
    (sym c.is_place.ensures ∙ c.if-not-is_place.false)

pub returns : goal.returns
returns c e =
    All-same (λ p. IsTrue (is_place_of c.args.words.now c.args.of p)) c.args.places.now _ (sym (take_all c.loop-place.place-index c.args.places.now c.loop-place-test.false)) c.loop-place.invariant
