use Rattle.std.proofs.Common.{ap₂, ◌∙◌}
use Rattle.clap.specs.Words.{with_rule}
use Rattle.ct_words.specs.Commands.{import_app}
use Rattle.ct_words.proofs.commands.import_command.Goals as goal

pub returns : goal.returns
unfolding import_app
returns c =
    c.in_ok-command.ensures.shape c.one_arg-3.ensures.local
    ∙ ap₂ with_rule (c.in_ok-with_csv.ensures.shape c.one_arg-2.ensures.local
    ∙ ap₂ with_rule (c.in_ok-with_name.ensures.shape c.one_arg.ensures.local ∙ ap₂ with_rule c.plain_command-plain.ensures c.one_arg.ensures.rule) c.one_arg-2.ensures.rule)
    c.one_arg-3.ensures.rule
