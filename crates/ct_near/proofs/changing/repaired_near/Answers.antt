use Rattle.std.{proofs.Common.{◌∷◌, subst}, specs.Prelude.{Contains, IfSome}}
use Rattle.ct_worlds.{specs.Repaired.IsChanged, proofs.Each.for_some}
use Rattle.ct_near.{specs.Near.{IsLaid, IsOldElsewhere, IsRepairedNear}, proofs.Near.{laid_over_is, repaired_is}}
use Rattle.ct_near.proofs.changing.repaired_near.Goals as goal

pub changed-requires-clause-nulls : goal.changed-requires-clause-nulls
changed-requires-clause-nulls c = λ p n h.
    c.in_ok-scope.ensures.is.nulls p n (subst (λ l. Contains l p) c.as_slice-places.ensures.value h)

pub returns-clause-near : goal.returns-clause-near
returns-clause-near c =
    let words = c.args.words.now in
    let root = c.args.root in
    let own = c.args.own.now in
    let old = c.args.world.now in
    let scope = c.in_ok-scope.scope in
    let made = c.in-Some.made in
    let of = c.in_ok-scope.ensures in
    let next = c.past_others-next.result in
    let part = subst (λ o. IfSome o (IsChanged words c.as_slice-conditions.result.now next c.in_ok-part.part)) c.in-Some.is c.in_ok-made.ensures in
    let changed = subst (λ v. IsChanged words scope.conditions.items next v made) c.in_ok-part.ensures.part (subst (λ l. IsChanged words l next c.in_ok-part.part made) c.as_slice-conditions.ensures.value part) in
    for_some (IsLaid words scope c.in_ok-part.rest.items made) (IsRepairedNear words (root ∷ own) old) c.laid.result
    (λ new is. repaired_is words root own c.args.conjuncts.now scope c.requires.formed c.requires.conjuncts of old made new c.requires.known
    (subst (λ rest. IsLaid words scope rest made new) c.in_ok-part.ensures.rest is) next changed) c.laid.ensures.laid

pub returns-clause-elsewhere : goal.returns-clause-elsewhere
returns-clause-elsewhere c =
    let words = c.args.words.now in
    let root = c.args.root in
    let own = c.args.own.now in
    let old = c.args.world.now in
    let scope = c.in_ok-scope.scope in
    let made = c.in-Some.made in
    let of = c.in_ok-scope.ensures in
    for_some (IsLaid words scope c.in_ok-part.rest.items made) (IsOldElsewhere words root own old) c.laid.result
    (λ new is. record {
      made = made;
      laid = laid_over_is words root own c.args.conjuncts.now scope c.requires.formed c.requires.conjuncts of old made new c.requires.known
          (subst (λ rest. IsLaid words scope rest made new) c.in_ok-part.ensures.rest is);
    }) c.laid.ensures.laid
