use Rattle.std.proofs.Common.{ap₂, ◌∙◌}
use Rattle.clap.specs.Words.{with_rule}
use Rattle.ct_words.specs.Commands.{run_app}
use Rattle.ct_words.proofs.commands.run_command.Goals as goal

pub returns : goal.returns
unfolding run_app
returns c =
    c.in_ok-command.ensures.shape c.file_arg.ensures.local
    ∙ ap₂ with_rule (c.in_ok-with_workers.ensures.shape c.workers_arg.ensures.local
    ∙ ap₂ with_rule (c.in_ok-with_first.ensures.shape c.first_arg.ensures.local
    ∙ ap₂ with_rule (c.in_ok-with_arena.ensures.shape c.arena_arg.ensures.local ∙ ap₂ with_rule c.plain_command-plain.ensures c.arena_arg.ensures.rule) c.first_arg.ensures.rule)
    c.workers_arg.ensures.rule) c.file_arg.ensures.rule
