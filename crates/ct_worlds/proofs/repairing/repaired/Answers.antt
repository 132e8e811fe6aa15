use Rattle.std.{proofs.Common.{◌∙◌, subst, sym}, specs.Prelude.IfSome}
use Rattle.ct_word.{specs.Condition.holds_at, specs.Reading.condition_at}
use Rattle.ct_worlds.{specs.Repaired.{IsChanged}, specs.Truths.ArePartsFirst, proofs.{Drawing.changed_values, Each.each_passes, Listed.parts_first}}
use Rattle.ct_worlds.proofs.repairing.repaired.Goals as goal

pub nulls_below-requires-clause-places : goal.nulls_below-requires-clause-places
nulls_below-requires-clause-places c =
    subst (ArePartsFirst c.args.words.now) (sym c.as_slice-places.ensures.value) (parts_first c.args.words.now c.args.conditions.now c.in_ok-below.below.items c.requires.formed c.in_ok-below.ensures)

pub returns : goal.returns
returns c =
    let words = c.args.words.now in
    let conditions = c.args.conditions.now in
    let world = c.args.world.now in
    let is = subst (λ o. IfSome o (IsChanged words conditions 0 world)) c.in-Some.is c.in_ok-made.ensures in
    record {
      holds = each_passes (λ p. holds_at c.in-Some.made (condition_at words p)) conditions (sym c.in_ok-all_hold.ensures ∙ c.if-not-branch.false);
      values = changed_values words conditions 0 world c.in-Some.made is;
      nulls = is.nulls;
      once = is.once;
    }
