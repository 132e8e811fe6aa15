use Rattle.std.{proofs.Common.{ap₂, ◌∙◌, codes}, proofs.lemmas.Result.IfOk-weaker}
use Rattle.clap.{specs.Words.found_of, proofs.WalkLemmas.first_value-rows}
use Rattle.ct_words.specs.Asked.{export_of}
use Rattle.ct_words.proofs.asking.export_by.Goals as goal

pub returns : goal.returns
returns c =
    let f = found_of c.args.matches.now in
    IfOk-weaker c.export_of.result _ _ (λ asked is. is ∙ ap₂ export_of
    (c.get_str-name.ensures ∙ first_value-rows f (codes "name")) (c.get_str.ensures ∙ first_value-rows f (codes "file"))) c.export_of.ensures
