use Rattle.std.proofs.lemmas.List.Elements.{All-get_or}
use Rattle.ct_tidy.{specs.Nulls.IsPart, proofs.Gathered.nulls_turn}
use Rattle.ct_tidy.proofs.below.nulls_at.Goals as goal

pub loop-place-preserved : goal.loop-place-preserved
loop-place-preserved c =
    let words = c.args.words.now in
    nulls_turn words c.args.places.now c.loop-place.place-index c.loop-place.nulls.keys c.put_null.new.nulls.keys c.loop-place-test.true
    (All-get_or (IsPart words) c.args.places.now c.loop-place.place-index 0 c.loop-place-test.true c.requires.parts) c.in_ok-put_null.ensures c.loop-place.invariant
