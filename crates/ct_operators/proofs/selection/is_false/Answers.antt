use Rattle.std.{proofs.Common.{◌∙◌, ap, []}, proofs.lemmas.Bool.eqb-true}
use Rattle.ct_word.{specs.Condition.holds_at, specs.Reading.condition_at}
use Rattle.ct_condition.proofs.Truths.{false_at}
use Rattle.ct_operators.proofs.selection.is_false.Goals as goal

pub returns-clause-never : goal.returns-clause-never
returns-clause-never g c e v =
    ap (λ p. holds_at v (condition_at (g.I.Interner.list c.args.pass.now) p)) (eqb-true c.args.place 1 e)
    ∙ (false_at (g.I.Interner.list c.args.pass.now) c.words.ensures.begins c.words.ensures.formed).truth_is v []
