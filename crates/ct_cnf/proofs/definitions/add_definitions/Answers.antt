use Rattle.std.{proofs.Common.{get_or, rules}, specs.Prelude.Contains}
use Rattle.ct_cnf.{specs.Lists.definition_entries, proofs.Added.flat_more}
use Rattle.ct_cnf.proofs.definitions.add_definitions.Goals as goal

pub bounds-words-p : goal.bounds-words-p
bounds-words-p c =
    let listed : Contains c.args.numbers.now.conditions (get_or c.as_slice-p-items.result.now c.loop-p.p-index 0) = search rules in
    c.requires.within _ listed

pub loop-p-preserved : goal.loop-p-preserved
unfolding definition_entries
loop-p-preserved c =
    let conditions = c.args.numbers.now.conditions in
    flat_more (definition_entries c.args.words.now c.args.numbers.now) _ _ _ conditions c.loop-p.p-index (rw (← c.as_slice-p-items.ensures) c.loop-p-test.true) c.loop-p.invariant
    (search rules)
