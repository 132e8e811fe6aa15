use Rattle.std.{proofs.Common.{◌∷◌, subst}, specs.Prelude.{◌↔◌, IsSome}}
use Rattle.ct_worlds.proofs.Each.{for_some}
use Rattle.ct_near.{specs.Near.{FitsIn, HoldAll, IsJoinedNear, IsLaid, IsLaidOver}, proofs.Near.{fits_is, for_answer, joined_is, laid_over_is}}
use Rattle.ct_near.proofs.changing.joined_near.Goals as goal

pub returns-clause-near : goal.returns-clause-near
returns-clause-near c =
    let words = c.args.words.now in
    let root = c.args.root in
    let own = c.args.own.now in
    let found = c.args.found.now in
    let old = c.args.world.now in
    let scope = c.in_ok-scope.scope in
    let of = c.in_ok-scope.ensures in
    for_some (IsLaid words scope c.in_ok-rest.rest.items found) (IsJoinedNear words (root ∷ own) found old) c.laid.result
    (λ new is. joined_is words root own c.args.conjuncts.now scope c.requires.formed c.requires.conjuncts of old found new c.requires.known
    (subst (λ rest. IsLaid words scope rest found new) c.in_ok-rest.ensures.rest is)) c.laid.ensures.laid

pub returns-clause-laid : goal.returns-clause-laid
returns-clause-laid c =
    let words = c.args.words.now in
    let root = c.args.root in
    let own = c.args.own.now in
    let found = c.args.found.now in
    let old = c.args.world.now in
    let scope = c.in_ok-scope.scope in
    let of = c.in_ok-scope.ensures in
    for_some (IsLaid words scope c.in_ok-rest.rest.items found) (IsLaidOver words root own found old) c.laid.result
    (λ new is. laid_over_is words root own c.args.conjuncts.now scope c.requires.formed c.requires.conjuncts of old found new c.requires.known
    (subst (λ rest. IsLaid words scope rest found new) c.in_ok-rest.ensures.rest is)) c.laid.ensures.laid

pub returns-clause-fits : goal.returns-clause-fits
returns-clause-fits c =
    let words = c.args.words.now in
    let root = c.args.root in
    let own = c.args.own.now in
    let found = c.args.found.now in
    let scope = c.in_ok-scope.scope in
    for_answer (λ o. IsSome o ↔ HoldAll words scope found) (λ o. IsSome o ↔ FitsIn words root own found) c.laid.result
    (fits_is words root own c.args.conjuncts.now scope c.requires.formed c.requires.conjuncts c.in_ok-scope.ensures found) c.laid.ensures.fits
