use Rattle.std.proofs.Common.{◌∙◌, ap}
use Rattle.ct_word.specs.Value.{same_value}
use Rattle.ct_condition.proofs.Values.{constant_there, pair_value}
use Rattle.ct_condition.proofs.valued.is_worth.Goals as goal

pub returns-in-Some : goal.returns-in-Some
returns-in-Some c =
    c.are_same.ensures
    ∙ ap (same_value c.args.value.now) (c.value_with.ensures ∙ pair_value c.args.words.now c.args.world.now c.args.worths.now c.args.place c.requires.term c.in-Some.number c.in-Some.ensures)

pub has_value-requires-clause-constant : goal.has_value-requires-clause-constant
has_value-requires-clause-constant c = constant_there c.args.words.now c.args.world.now c.args.worths.now c.args.place c.requires.term c.in-None.ensures
