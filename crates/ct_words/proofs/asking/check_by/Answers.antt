use Rattle.std.proofs.Common.{ap, ◌∙◌, codes}
use Rattle.clap.{specs.Words.found_of, proofs.WalkLemmas.first_value-rows}
use Rattle.ct_words.specs.Asked.{check_of}
use Rattle.ct_words.proofs.asking.check_by.Goals as goal

pub returns : goal.returns
returns c =
    c.check_of.ensures ∙ ap check_of (c.get_str.ensures ∙ first_value-rows (found_of c.args.matches.now) (codes "file"))
