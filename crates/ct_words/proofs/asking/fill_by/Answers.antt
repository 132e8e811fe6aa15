use Rattle.std.proofs.Common.{ap, ◌∙◌, codes}
use Rattle.clap.{specs.Words.found_of, proofs.WalkLemmas.first_value-rows}
use Rattle.ct_words.specs.Asked.{fill_of}
use Rattle.ct_words.proofs.asking.fill_by.Goals as goal

pub returns : goal.returns
returns c =
    c.fill_of.ensures ∙ ap fill_of (c.get_str.ensures ∙ first_value-rows (found_of c.args.matches.now) (codes "n"))
