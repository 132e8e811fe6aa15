use Rattle.std.{proofs.Common.{sym, subst, arith}, specs.Prelude.Contains, proofs.lemmas.List.take_all}
use Rattle.ct_worlds.{proofs.Noting.{below_noted, noted_more, only_more}}
use Rattle.ct_worlds.proofs.nulls.nulls_below.Goals as goal

pub loop-place-preserved : goal.loop-place-preserved
loop-place-preserved c = record {
  nulls = c.in_ok-add_terms.ensures.nulls;
  noted = noted_more c.args.words.now c.args.places.now c.loop-place.place-index c.loop-place.nulls c.add_terms.new.nulls c.loop-place-test.true c.in_ok-add_terms.ensures.kept c.loop-place.invariant.noted c.in_ok-add_terms.ensures.put;
  only = only_more c.args.words.now c.args.places.now c.loop-place.place-index c.loop-place.nulls c.add_terms.new.nulls c.loop-place-test.true c.loop-place.invariant.only c.in_ok-add_terms.ensures.only;
}

pub returns-clause-below : goal.returns-clause-below
returns-clause-below c =
    let words = c.args.words.now in
    let places = c.args.places.now in
    below_noted words places c.loop-place.nulls c.requires.formed c.requires.places
    (λ e h. c.loop-place.invariant.noted e (subst (λ l. Contains l e) (sym (take_all c.loop-place.place-index places (omega (arith, c.loop-place-test.false)))) h))
