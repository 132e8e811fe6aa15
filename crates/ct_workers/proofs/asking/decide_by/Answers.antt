use Rattle.std.{proofs.Common.{sym, subst}, specs.Prelude.IfSome}
use Rattle.ct_near.specs.Conjuncts.{AreBeside}
use Rattle.ct_workers.proofs.asking.decide_by.Goals as goal

pub decide_beside-requires-clause-beside : goal.decide_beside-requires-clause-beside
decide_beside-requires-clause-beside c =
    let words = c.args.words.now in
    let place = c.args.held.now.place in
    subst (AreBeside words c.args.root place) (sym c.as_slice.ensures.value)
    (subst (λ o. IfSome o (λ others. AreBeside words c.args.root place others.items)) c.in-Some.is c.in_ok-own.ensures.beside)
