use Rattle.std.proofs.Common.{subst, inl}
use Rattle.ct_word.proofs.Prefixes.{place_within}
use Rattle.ct_condition.{specs.Truth.{HasTruth, or_at}, proofs.Reached.formed_before}
use Rattle.ct_table.proofs.Joining.{first_false}
use Rattle.ct_operators.proofs.Reaching.{below_before}
use Rattle.ct_word.specs.declared.kinds.Class.TheVariants as class
use Rattle.ct_table.proofs.preparing.joined.Goals as goal

pub returns-then-both-eq-FALSE_PLACE-clause-truth : goal.returns-then-both-eq-FALSE_PLACE-clause-truth
returns-then-both-eq-FALSE_PLACE-clause-truth g c =
    let old = g.I.Interner.list c.args.pass.now in
    let new = g.I.Interner.list c.or.new.pass in
    first_false old new c.args.present c.args.cond c.in_ok-both.ensures.longer c.words.ensures.formed c.words.ensures.begins c.words.ensures.small c.requires.present
    (subst (λ p. HasTruth new p (or_at old c.args.present c.args.cond)) c.if-both-eq-FALSE_PLACE.true c.in_ok-both.ensures.truth)

pub returns-then-both-eq-FALSE_PLACE-clause-terms : goal.returns-then-both-eq-FALSE_PLACE-clause-terms
returns-then-both-eq-FALSE_PLACE-clause-terms g c t h =
    let old = g.I.Interner.list c.args.pass.now in
    let new = g.I.Interner.list c.or.new.pass in
    let longer = c.in_ok-both.ensures.longer in
    inl (below_before old new longer (formed_before old new longer c.words.ensures.formed) c.args.present t (place_within old class.Cond c.args.present c.requires.present) h)
