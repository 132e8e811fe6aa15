use Rattle.std.{proofs.Common.{◌≡◌, ◌∙◌, false, refl, true, subst, sym}, specs.Prelude.{◌↔◌, Contains}}
use Rattle.ct_word.{specs.Condition.holds_at, specs.Reading.condition_at}
use Rattle.ct_worlds.proofs.Each.{each_passes}
use Rattle.ct_worlds.specs.Repaired.{Each}
use Rattle.ct_near.proofs.Near.{none_fits}
use Rattle.ct_near.proofs.changing.laid.Goals as goal

pub all_hold-requires-clause-conditions : goal.all_hold-requires-clause-conditions
all_hold-requires-clause-conditions c = λ p h. c.requires.scope.conditions p (subst (λ l. Contains l p) c.as_slice-conditions.ensures.value h)

pub all_hold-requires-clause-nulls : goal.all_hold-requires-clause-nulls
all_hold-requires-clause-nulls c = λ p n h. c.requires.scope.nulls p n (subst (λ l. Contains l p) c.as_slice-places.ensures.value h)

pub returns-clause-laid : goal.returns-clause-laid
returns-clause-laid c = record {
  holds = λ p h. each_passes (λ q. holds_at c.args.made.now (condition_at c.args.words.now q)) c.as_slice-conditions.result.now
      (sym c.in_ok-all_hold.ensures ∙ c.if-not-branch.false) p (subst (λ l. Contains l p) (sym c.as_slice-conditions.ensures.value) h);
  pairs = c.in_ok-new.ensures;
}

pub returns-then-not-branch-clause-fits : goal.returns-then-not-branch-clause-fits
returns-then-not-branch-clause-fits c =
    let words = c.args.words.now in
    let made = c.args.made.now in
    subst (λ ps. (false ≡ true) ↔ Each (λ p. holds_at made (condition_at words p) ≡ true) ps) c.as_slice-conditions.ensures.value
    (none_fits (λ p. holds_at made (condition_at words p)) c.as_slice-conditions.result.now c.in_ok-all_hold.field-0 c.in_ok-all_hold.ensures c.if-not-branch.true)

pub returns-clause-fits : goal.returns-clause-fits
returns-clause-fits c = (
  λ _ p h. each_passes (λ q. holds_at c.args.made.now (condition_at c.args.words.now q)) c.as_slice-conditions.result.now
      (sym c.in_ok-all_hold.ensures ∙ c.if-not-branch.false) p (subst (λ l. Contains l p) (sym c.as_slice-conditions.ensures.value) h),
  λ _. refl,
)
