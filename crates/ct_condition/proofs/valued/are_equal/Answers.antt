use Rattle.std.{proofs.Common.{◌≡◌, ◌∙◌, [], subst}, specs.Prelude.IfOk}
use Rattle.ct_word.{specs.Value.{at, same_value}, specs.Reading.term_at}
use Rattle.ct_condition.proofs.Values.{constant_there, pair_value}
use Rattle.ct_condition.proofs.valued.are_equal.Goals as goal

pub returns-in-Some : goal.returns-in-Some
returns-in-Some c =
    subst (λ x. IfOk c.is_worth.result (λ b. b ≡ same_value x (at c.args.world.now [] (term_at c.args.words.now c.args.b))))
    (c.value_with-value.ensures ∙ pair_value c.args.words.now c.args.world.now c.args.worths.now c.args.a c.requires.first c.in-Some.number c.in-Some.ensures)
    c.is_worth.ensures

pub is_constant_equal-requires-clause-constant : goal.is_constant_equal-requires-clause-constant
is_constant_equal-requires-clause-constant c = constant_there c.args.words.now c.args.world.now c.args.worths.now c.args.a c.requires.first c.in-None.ensures
