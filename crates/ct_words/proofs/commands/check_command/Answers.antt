use Rattle.std.proofs.Common.{ap₂, ◌∙◌}
use Rattle.clap.specs.Words.{with_rule}
use Rattle.ct_words.specs.Commands.{check_app}
use Rattle.ct_words.proofs.commands.check_command.Goals as goal

pub returns : goal.returns
unfolding check_app
returns c =
    c.in_ok-command.ensures.shape c.one_arg.ensures.local ∙ ap₂ with_rule c.plain_command-plain.ensures c.one_arg.ensures.rule
