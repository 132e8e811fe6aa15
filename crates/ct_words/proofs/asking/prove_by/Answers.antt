use Rattle.std.proofs.Common.{ap₂, ◌∙◌, codes}
use Rattle.clap.{specs.Words.found_of, proofs.WalkLemmas.first_value-rows}
use Rattle.ct_words.specs.Asked.{prove_of}
use Rattle.ct_words.proofs.asking.prove_by.Goals as goal

pub returns : goal.returns
returns c =
    let f = found_of c.args.matches.now in
    c.prove_of.ensures ∙ ap₂ prove_of (c.get_str.ensures ∙ first_value-rows f (codes "reply")) (c.get_str-2.ensures ∙ first_value-rows f (codes "file"))
