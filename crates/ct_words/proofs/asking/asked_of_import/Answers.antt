use Rattle.std.{proofs.Common.{ap, ◌∙◌}, proofs.lemmas.Result.IfOk-weaker}
use Rattle.clap.specs.Words.{is_simple_and_free}
use Rattle.ct_words.{specs.Asked.import_by, proofs.Plain.import_is_plain, proofs.Found.made_of_found}
use Rattle.ct_words.proofs.asking.asked_of_import.Goals as goal

pub found-requires : goal.found-requires
found-requires c = ap is_simple_and_free c.in_ok-import_command.ensures ∙ import_is_plain

pub returns-in-Some : goal.returns-in-Some
returns-in-Some c =
    let same = made_of_found import_by _ _ _ _ _ c.in-Some.is c.in_ok-matches.ensures c.in_ok-import_command.ensures in
    IfOk-weaker c.import_by.result _ _ (λ asked told. told ∙ same) c.import_by.ensures

pub returns-in-None : goal.returns-in-None
returns-in-None c =
    made_of_found import_by _ _ _ _ _ c.in-None.is c.in_ok-matches.ensures c.in_ok-import_command.ensures
