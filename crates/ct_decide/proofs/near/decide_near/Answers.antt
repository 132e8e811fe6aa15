use Rattle.std.{proofs.Common.{◌∷◌, subst, inr}, specs.Prelude.IfSome}
use Rattle.ct_near.specs.Near.{IsJoinedNear, IsLaidOver}
use Rattle.ct_decide.proofs.Nearby.{placed, own_below, beside_below, near_world, near_decided, whole_decided}
use Rattle.ct_decide.proofs.near.decide_near.Goals as goal

pub joined_near-requires-clause-own : goal.joined_near-requires-clause-own
joined_near-requires-clause-own c =
    let words = c.args.words.now in
    placed words c.args.root c.args.own.now (own_below words c.requires.formed c.args.root c.requires.condition c.args.global c.args.own.now c.args.conjuncts.now c.requires.conjuncts c.requires.beside)

pub returns-in-Some : goal.returns-in-Some
returns-in-Some c =
    let words = c.args.words.now in
    let own = c.args.own.now in
    let joined = subst (λ o. IfSome o (IsJoinedNear words (c.args.global ∷ own) c.in-World.found c.args.world.now)) c.in-Some.is c.in_ok-near-in-World.ensures.near in
    record {
      decided = near_world words c.args.root c.args.world.now c.args.global own c.in-World.found c.in-Some.near c.requires.beside
          (beside_below words c.requires.formed c.args.root c.requires.condition c.args.global own c.args.conjuncts.now c.requires.conjuncts c.requires.beside)
          (rw c.in-World.is at c.in_ok-derivation.ensures) joined;
      kept = inr (record {
        made = c.in-World.found;
        laid = subst (λ o. IfSome o (IsLaidOver words c.args.global own c.in-World.found c.args.world.now)) c.in-Some.is c.in_ok-near-in-World.ensures.laid;
      });
    }

pub returns : goal.returns
returns c = record {
  decided = near_decided c.args.words.now c.args.root c.args.world.now c.in_ok-decide-in-None.field-0 c.in_ok-decide-in-None.ensures.decided;
  kept = whole_decided c.args.words.now c.args.root c.args.world.now c.in_ok-decide-in-None.field-0 c.in_ok-decide-in-None.ensures.decided c.args.global c.args.own.now;
}
