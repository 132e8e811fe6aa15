use Rattle.std.{proofs.Common.{ap, ◌∙◌}, proofs.lemmas.Result.IfOk-weaker}
use Rattle.clap.specs.Words.{is_simple_and_free}
use Rattle.ct_words.{specs.Asked.export_by, proofs.Plain.export_is_plain, proofs.Found.made_of_found}
use Rattle.ct_words.proofs.asking.asked_of_export.Goals as goal

pub found-requires : goal.found-requires
found-requires c = ap is_simple_and_free c.in_ok-export_command.ensures ∙ export_is_plain

pub returns-in-Some : goal.returns-in-Some
returns-in-Some c =
    let same = made_of_found export_by _ _ _ _ _ c.in-Some.is c.in_ok-matches.ensures c.in_ok-export_command.ensures in
    IfOk-weaker c.export_by.result _ _ (λ asked told. told ∙ same) c.export_by.ensures

pub returns-in-None : goal.returns-in-None
returns-in-None c =
    made_of_found export_by _ _ _ _ _ c.in-None.is c.in_ok-matches.ensures c.in_ok-export_command.ensures
