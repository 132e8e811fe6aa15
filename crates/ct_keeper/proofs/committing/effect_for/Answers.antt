use Rattle.std.proofs.Common.{rules}
use Rattle.ct_keeper.proofs.Interning.{interned}
use Rattle.ct_keeper.proofs.committing.effect_for.Goals as goal

pub returns-clause-interns : goal.returns-clause-interns
returns-clause-interns g c =
    let seated = c.effect_of.new.pass in
    interned _ _ seated.keeper.now _ _ seated.guest.now (search rules) (search rules) (search rules) (search rules) (search rules) c.effect_of.ensures.writes.kept
