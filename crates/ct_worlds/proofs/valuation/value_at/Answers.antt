use Rattle.std.proofs.Common.{[], sym, ◌∙◌}
use Rattle.ct_word.{specs.Value.at, specs.Reading.term_at, proofs.Constants.constant_stands}
use Rattle.ct_worlds.proofs.valuation.value_at.Goals as goal

pub returns-then-is_constant-clause-value : goal.returns-then-is_constant-clause-value
returns-then-is_constant-clause-value c =
    (at [] [] (term_at c.args.words.now c.args.place), constant_stands c.args.words.now c.requires.formed [] c.args.place (sym c.is_constant.ensures.word ∙ c.if-is_constant.true))
