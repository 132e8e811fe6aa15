use Rattle.ct_join.proofs.Walk.{number_none, number_found}
use Rattle.ct_join.proofs.finding.number_from.Goals as goal

pub returns-in-Some : goal.returns-in-Some
returns-in-Some c = number_found c.args.keys.now c.args.numbers.now.keys c.args.nulls.now c.requires.indexed c.args.number c.args.from c.in-Some.place c.in-Some.ensures

pub returns-in-None : goal.returns-in-None
returns-in-None c = number_none c.args.keys.now c.args.numbers.now.keys c.args.nulls.now c.requires.indexed c.args.number c.args.from c.requires.within c.in-None.ensures
