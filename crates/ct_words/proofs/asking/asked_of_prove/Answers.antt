use Rattle.std.proofs.Common.{ap, ◌∙◌}
use Rattle.clap.specs.Words.{is_simple_and_free}
use Rattle.ct_words.{specs.Asked.prove_by, proofs.Plain.prove_is_plain, proofs.Found.made_of_found}
use Rattle.ct_words.proofs.asking.asked_of_prove.Goals as goal

pub found-requires : goal.found-requires
found-requires c = ap is_simple_and_free c.in_ok-prove_command.ensures ∙ prove_is_plain

pub returns-in-Some : goal.returns-in-Some
returns-in-Some c =
    c.prove_by.ensures ∙ made_of_found prove_by _ _ _ _ _ c.in-Some.is c.in_ok-matches.ensures c.in_ok-prove_command.ensures

pub returns-in-None : goal.returns-in-None
returns-in-None c =
    made_of_found prove_by _ _ _ _ _ c.in-None.is c.in_ok-matches.ensures c.in_ok-prove_command.ensures
