use Rattle.std.proofs.Common.{sym, ◌∙◌}
use Rattle.ct_cert.proofs.Alike.{at_has}
use Rattle.ct_cert.proofs.repeats.stands_at.Goals as goal

pub returns-in-Some-clause-among : goal.returns-in-Some-clause-among
returns-in-Some-clause-among c =
    let at = c.in-Some.ensures.lookup.3 in
    λ e. at_has c.args.kept.now c.args.place c.args.literal.now c.in-Some.other.now at.0 (at.1 c.in-Some.other.now) (sym c.is_same.ensures ∙ e)
