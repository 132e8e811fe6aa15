use Rattle.std.{proofs.Common.{◌∷◌, get_or, subst, arith}, proofs.lemmas.Option.slice_get-get_or}
use Rattle.ct_tidy.{specs.Nulls.ArePut, proofs.Gathered.{at_place, gathered_all, gathered_first, gathered_turn, part_within}}
use Rattle.ct_tidy.proofs.below.gather.Goals as goal

pub loop-next-init : goal.loop-next-init
loop-next-init c =
    let roots = c.args.cond ∷ c.args.cells.now in
    let keys = c.put_roots.new.places.keys in
    gathered_first c.args.words.now c.requires.formed roots keys c.requires.parts (subst (λ ks. ArePut ks roots keys) c.new-places.ensures.empty c.in_ok-put_roots.ensures)

pub bounds-words-place : goal.bounds-words-place
bounds-words-place c = part_within c.args.words.now c.requires.formed c.index-place.result.now (at_place c.args.words.now c.loop-next.places.keys c.loop-next.next c.index-place.result.now c.index-place.ensures c.loop-next.invariant.each)

pub loop-next-preserved : goal.loop-next-preserved
loop-next-preserved c =
    let words = c.args.words.now in
    let place = c.index-place.result.now in
    let within = part_within words c.requires.formed place (at_place words c.loop-next.places.keys c.loop-next.next place c.index-place.ensures c.loop-next.invariant.each) in
    gathered_turn words c.requires.formed (c.args.cond ∷ c.args.cells.now) c.loop-next.next place (get_or words place 0) c.loop-next.places.keys c.put_parts.new.places.keys c.index-place.ensures (slice_get-get_or words place 0 within) c.in_ok-put_parts.ensures c.loop-next.invariant

pub returns : goal.returns
returns c = gathered_all c.args.words.now c.requires.formed (c.args.cond ∷ c.args.cells.now) c.loop-next.next c.loop-next.places.keys (omega (arith, c.loop-next-test.false, c.len.ensures.len)) c.loop-next.invariant
