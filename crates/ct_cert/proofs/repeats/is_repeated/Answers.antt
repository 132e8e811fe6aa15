use Rattle.std.proofs.Common.{ap}
use Rattle.ct_cert.proofs.Noted.{found_noted, new_noted}
use Rattle.ct_cert.proofs.repeats.is_repeated.Goals as goal

pub returns-in-Some-clause-noted : goal.returns-in-Some-clause-noted
returns-in-Some-clause-noted c = λ low own are.
    found_noted c.args.kept.now c.args.literal.now c.args.noted.now.words c.number-number.result c.number-number.ensures low own are c.in-Some.place c.stands_at.result c.in-Some.ensures
    c.stands_at.ensures.same

pub returns-in-None-clause-noted : goal.returns-in-None-clause-noted
returns-in-None-clause-noted c = λ low own are.
    new_noted c.args.kept.now c.args.literal.now c.args.noted.now.words c.number-number.result c.number-number.ensures low own are c.push.new.self.words c.in-None.ensures
    (ap (λ n. n.words) c.push.ensures)
