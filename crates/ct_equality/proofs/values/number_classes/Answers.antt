use Rattle.std.{proofs.Common.{◌∙◌, sym, subst, take, get_or}, proofs.lemmas.List.take_more}
use Rattle.ct_equality.{specs.Valued.AreNumberedTo, proofs.Trees.among_at, proofs.Listed.first_below}
use Rattle.ct_equality.proofs.values.number_classes.Goals as goal

pub loop-place-preserved : goal.loop-place-preserved
loop-place-preserved c =
    let terms = c.args.terms.now in
    let first = c.args.members.now in
    let done = take c.loop-place.place-index terms in
    let now = c.loop-place.invariant.numbered.numbers in
    let below = first_below terms c.loop-place.place-index c.requires.ascending c.loop-place-test.true in
    let next = c.number_class-next in
    record {
      numbered = subst (λ l. AreNumberedTo c.args.words.now first next.new.members l next.result) (sym (take_more terms c.loop-place.place-index 0 c.loop-place-test.true)) (next.ensures.numbers first done now below);
      indexed = next.ensures.indexed;
      table = next.ensures.taken first done now below;
    }

pub number_class-next-requires-clause-there : goal.number_class-next-requires-clause-there
number_class-next-requires-clause-there c =
    let terms = c.args.terms.now in
    c.loop-place.invariant.numbered.numbers.listed (get_or terms c.loop-place.place-index 0) ∙ c.requires.there _ (among_at terms c.loop-place.place-index c.loop-place-test.true)
