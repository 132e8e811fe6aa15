use Rattle.std.{proofs.Common.{subst, sym}, specs.Prelude.Contains}
use Rattle.ct_worlds.{specs.Below.AreBelow, specs.Nulls.{AreNullsBelow, IsNullBelow}, specs.Truths.ArePartsFirst, proofs.Listed.parts_first}
use Rattle.ct_near.{specs.Conjuncts.AreChosen, proofs.Near.chosen_placed}
use Rattle.ct_near.proofs.scope.scope_with.Goals as goal

pub below-requires-clause-roots : goal.below-requires-clause-roots
below-requires-clause-roots c = λ p h.
    chosen_placed c.args.words.now c.args.own.now c.places.result.now c.args.is_asked.now c.in_ok-conditions.conditions.items
    (λ q i. c.requires.conjuncts q (subst (λ l. Contains l q) c.places.ensures i)) c.requires.own c.in_ok-conditions.ensures p (subst (λ l. Contains l p) c.as_slice.ensures.value h)

pub nulls_below-requires-clause-places : goal.nulls_below-requires-clause-places
nulls_below-requires-clause-places c =
    subst (ArePartsFirst c.args.words.now) (sym c.as_slice-2.ensures.value) (parts_first c.args.words.now c.as_slice.result.now c.in_ok-places.places.items c.requires.formed c.in_ok-places.ensures)

pub returns-clause-is : goal.returns-clause-is
returns-clause-is c =
    let words = c.args.words.now in
    let conditions = c.in_ok-conditions.conditions.items in
    let nulls = c.in_ok-nulls.nulls in
    record {
      conditions = chosen_placed words c.args.own.now c.args.conjuncts.now.places.items c.args.is_asked.now conditions c.requires.conjuncts c.requires.own
          (subst (λ ps. AreChosen ps c.args.is_asked.now c.args.own.now conditions) c.places.ensures c.in_ok-conditions.ensures);
      places = subst (λ l. AreBelow words l c.in_ok-places.places.items) c.as_slice.ensures.value c.in_ok-places.ensures;
      nulls = subst (λ l. AreNullsBelow words l nulls) c.as_slice-2.ensures.value c.in_ok-nulls.ensures.below;
      each = λ n h. subst (λ l. IsNullBelow words l n) c.as_slice-2.ensures.value (c.in_ok-nulls.ensures.only n h);
    }

pub returns-clause-chosen : goal.returns-clause-chosen
returns-clause-chosen c = subst (λ ps. AreChosen ps c.args.is_asked.now c.args.own.now c.in_ok-conditions.conditions.items) c.places.ensures c.in_ok-conditions.ensures
