use Rattle.std.proofs.Common.{sym, ◌∙◌}
use Rattle.ct_equality.proofs.Indexed.{not_among, listed_is, found_at, number_set, numbered_unlisted}
use Rattle.ct_equality.proofs.values.give.Goals as goal

pub returns-in-Some : goal.returns-in-Some
returns-in-Some c =
    let words = c.args.found.now.words in
    let ms = c.args.members.now in
    sym (number_set ms c.in-Some.i c.args.place c.args.number _ (found_at words ms c.requires.indexed c.in-Some.i c.args.place c.in-Some.ensures))

pub returns-in_default : goal.returns-in_default
returns-in_default c =
    sym (numbered_unlisted c.args.members.now c.args.place c.args.number (listed_is c.args.found.now.words c.args.members.now c.requires.indexed c.args.place ∙ not_among c.args.found.now.words c.args.place c.in_default.ensures))
