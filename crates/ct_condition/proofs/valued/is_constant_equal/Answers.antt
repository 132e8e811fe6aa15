use Rattle.std.{proofs.Common.{◌≡◌, ◌∙◌, [], ap, subst}, specs.Prelude.IfOk}
use Rattle.ct_word.{specs.Value.{at, same_value}, specs.Reading.term_at}
use Rattle.ct_condition.proofs.Values.{constant_there, constants_same, pair_value, same_turned}
use Rattle.ct_condition.proofs.valued.is_constant_equal.Goals as goal

pub returns-in-Some : goal.returns-in-Some
returns-in-Some c =
    let words = c.args.words.now in
    let v = c.args.world.now in
    let own = at v [] (term_at words c.args.constant) in
    subst (λ y. IfOk c.has_value.result (λ b. b ≡ y))
    (ap (λ x. same_value x own) (c.value_with.ensures ∙ pair_value words v c.args.worths.now c.args.place c.requires.second c.in-Some.number c.in-Some.ensures)
    ∙ same_turned (at v [] (term_at words c.args.place)) own)
    (c.has_value.ensures v)

pub returns-in-None : goal.returns-in-None
returns-in-None c =
    constants_same c.args.words.now c.requires.formed c.args.world.now c.args.constant c.args.place c.requires.first.placed c.requires.second.placed c.requires.constant
    (constant_there c.args.words.now c.args.world.now c.args.worths.now c.args.place c.requires.second c.in-None.ensures)
