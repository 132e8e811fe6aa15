use Rattle.std.{proofs.Common.{arith}, proofs.lemmas.Bool.Decides.nat_tests}
use Rattle.ct_equality.proofs.Indexed.{among_there}
use Rattle.ct_equality.proofs.terms.add.Goals as goal

pub returns-in-Some-clause-among : goal.returns-in-Some-clause-among
returns-in-Some-clause-among c = λ p.
    grind (arith, nat_tests, among_there c.args.terms.now.found.words _ c.args.place c.in-Some.ensures, c.requires.met.same)
