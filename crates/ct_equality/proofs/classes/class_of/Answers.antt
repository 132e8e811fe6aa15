use Rattle.std.proofs.Common.{sym, ◌∙◌}
use Rattle.ct_equality.{proofs.Members.class_unlisted, proofs.Indexed.{not_among, listed_is, found_at, class_found}}
use Rattle.ct_equality.proofs.classes.class_of.Goals as goal

pub returns-in-None : goal.returns-in-None
returns-in-None c =
    sym (class_unlisted c.args.members.now c.args.place (listed_is c.args.found.now.words c.args.members.now c.requires.indexed c.args.place ∙ not_among c.args.found.now.words c.args.place c.in-None.ensures))

pub returns-in-Some : goal.returns-in-Some
returns-in-Some c = sym (class_found c.args.members.now c.in-Some.i c.args.place _ (found_at c.args.found.now.words c.args.members.now c.requires.indexed c.in-Some.i c.args.place c.in-Some.ensures))
