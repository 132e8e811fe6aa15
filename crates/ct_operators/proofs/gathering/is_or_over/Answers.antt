use Rattle.std.proofs.Common.{◌≡◌, ◌∙◌, ◌||◌, ℕ, Bool, true, false, List, refl, ap, sym, subst}
use Rattle.std.{specs.Prelude.{IsTrue, nat_eq}, proofs.lemmas.Bool.{eqb-true}}
use Rattle.ct_word.{specs.Value.World, specs.declared.values.Value.Value, specs.Condition.holds, specs.Reading.condition_at}
use Rattle.ct_word.{specs.WellFormed.{IsWellFormed, is_place_of}, proofs.Joins.joined_holds}
use Rattle.ct_word.specs.declared.kinds.Class.TheVariants as class
use Rattle.ct_word.specs.declared.connectives.Connective.TheVariants as connective
use Rattle.ct_worlds.{specs.declared.shape.Shape.Shape, specs.Shape.shape_at, proofs.Shaped.shaped_as}
use Rattle.ct_worlds.specs.declared.shape.Shape.TheVariants as shape
use Rattle.ct_condition.specs.Truth.{truth_at, or_at}
use Rattle.ct_operators.proofs.gathering.is_or_over.Goals as goal

first_again : (x y : Bool) → (x || y) ≡ ((x || y) || x)
first_again true y = refl
first_again false true = refl
first_again false false = refl

second_again : (x y : Bool) → (x || y) ≡ ((x || y) || y)
second_again true y = refl
second_again false true = refl
second_again false false = refl

module _ (ws : List ℕ) (p a b : ℕ) (formed : IsWellFormed ws) (placed : IsTrue (is_place_of ws class.Cond p)) (is : shape_at ws p ≡ shape.Joined connective.Or a b) where
  either_part : (v : World) (row : List Value) → truth_at ws p v row ≡ (truth_at ws a v row || truth_at ws b v row)
  either_part v row = ap (holds v row) (shaped_as ws p formed placed refl is).condition ∙ joined_holds connective.Or v row (condition_at ws a) (condition_at ws b)

  -- a disjunction over a condition says nothing else when that is joined to it
  over_first : (v : World) (row : List Value) → truth_at ws p v row ≡ or_at ws p a v row
  over_first v row = either_part v row ∙ first_again (truth_at ws a v row) (truth_at ws b v row) ∙ ap (λ x. x || truth_at ws a v row) (sym (either_part v row))

  over_second : (v : World) (row : List Value) → truth_at ws p v row ≡ or_at ws p b v row
  over_second v row = either_part v row ∙ second_again (truth_at ws a v row) (truth_at ws b v row) ∙ ap (λ x. x || truth_at ws b v row) (sym (either_part v row))

pub returns-then-left-cond : goal.returns-then-left-cond
returns-then-left-cond c e v row =
    let a = c.in-Joined-Or-default-default.left in
    let b = c.in-Joined-Or-default-default.right in
    let is = sym c.shape_at.ensures ∙ c.in-Joined-Or-default-default.is ∙ ap (λ j. shape.Joined j a b) c.in-Joined-Or-default-default.field-0-is in
    over_first c.args.words.now c.args.place a b c.requires.formed c.requires.place is v row
    ∙ ap (λ d. or_at c.args.words.now c.args.place d v row) c.if-left-cond.true

pub returns-else-left-cond : goal.returns-else-left-cond
returns-else-left-cond c e v row =
    let a = c.in-Joined-Or-default-default.left in
    let b = c.in-Joined-Or-default-default.right in
    let is = sym c.shape_at.ensures ∙ c.in-Joined-Or-default-default.is ∙ ap (λ j. shape.Joined j a b) c.in-Joined-Or-default-default.field-0-is in
    over_second c.args.words.now c.args.place a b c.requires.formed c.requires.place is v row
    ∙ ap (λ d. or_at c.args.words.now c.args.place d v row) (eqb-true b c.args.cond e)
