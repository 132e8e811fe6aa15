use Rattle.std.proofs.Common.{◌∙◌}
use Rattle.clap.specs.Words.{app_of}
use Rattle.ct_words.{specs.Asked.texts_of, proofs.Found.{simple, found_rows, found_fault}}
use Rattle.ct_words.proofs.commands.found.Goals as goal

pub returns-in-Ok : goal.returns-in-Ok
returns-in-Ok c =
    found_rows (app_of c.args.command) (texts_of c.args.words.now) _ (c.in-Ok.ensures.kinds c.requires)
    (c.in-Ok.ensures.matches (simple (app_of c.args.command) c.requires)).0

pub returns : goal.returns
returns c =
    found_fault (app_of c.args.command) (texts_of c.args.words.now) c.in-Err.error (c.in-Err.ensures.kinds c.requires)
    (λ memory. c.in_default.not-OutOfMemory (c.kind.ensures ∙ memory))
