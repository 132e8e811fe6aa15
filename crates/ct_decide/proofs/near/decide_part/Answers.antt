use Rattle.std.proofs.Common.{List, ℕ, ◌++◌, ◌∙◌, ap, sym, subst}
use Rattle.ct_decide.{specs.Part.AreConditionsBelow, proofs.Nearby.{placed, own_below, asked_below, deep_below}}
use Rattle.ct_decide.proofs.near.decide_part.Goals as goal

pub related-requires-clause-own : goal.related-requires-clause-own
related-requires-clause-own c =
    let words = c.args.words.now in
    placed words c.args.root c.args.own.now (own_below words c.requires.formed c.args.root c.requires.condition c.args.global c.args.own.now c.args.conjuncts.now c.requires.conjuncts c.requires.beside)

pub begin_part-requires-clause-asked : goal.begin_part-requires-clause-asked
begin_part-requires-clause-asked c =
    let words = c.args.words.now in
    subst (λ (ps : List ℕ). AreConditionsBelow words c.args.root ps) (sym (c.as_slice-3.ensures.value ∙ c.in_ok-asked.ensures ∙ ap (λ l. c.args.own.now ++ l) c.as_slice.ensures.value))
    (asked_below words c.requires.formed c.args.root c.requires.condition c.args.global c.args.own.now c.args.conjuncts.now c.requires.conjuncts c.requires.beside c.in_ok-others.others.items c.in_ok-others.ensures.conjuncts)

pub begin_part-requires-clause-deep : goal.begin_part-requires-clause-deep
begin_part-requires-clause-deep c p h =
    deep_below c.args.words.now c.requires.formed c.args.root c.requires.condition c.args.global c.args.own.now c.args.conjuncts.now c.requires.conjuncts c.requires.beside p (c.deep-deep.ensures p h)

pub begin_part-requires-clause-high : goal.begin_part-requires-clause-high
begin_part-requires-clause-high c = subst (λ (ps : List ℕ). AreConditionsBelow c.args.words.now c.args.root ps) (sym c.as_slice-4.ensures.value) c.in_ok-high.ensures

pub returns : goal.returns
returns c = c.search.ensures
