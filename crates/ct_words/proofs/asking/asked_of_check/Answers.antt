use Rattle.std.proofs.Common.{ap, ◌∙◌}
use Rattle.clap.specs.Words.{is_simple_and_free}
use Rattle.ct_words.{specs.Asked.check_by, proofs.Plain.check_is_plain, proofs.Found.made_of_found}
use Rattle.ct_words.proofs.asking.asked_of_check.Goals as goal

pub found-requires : goal.found-requires
found-requires c = ap is_simple_and_free c.in_ok-check_command.ensures ∙ check_is_plain

pub returns-in-Some : goal.returns-in-Some
returns-in-Some c =
    c.check_by.ensures ∙ made_of_found check_by _ _ _ _ _ c.in-Some.is c.in_ok-matches.ensures c.in_ok-check_command.ensures

pub returns-in-None : goal.returns-in-None
returns-in-None c =
    made_of_found check_by _ _ _ _ _ c.in-None.is c.in_ok-matches.ensures c.in_ok-check_command.ensures
