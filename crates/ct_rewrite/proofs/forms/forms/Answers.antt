use Rattle.std.proofs.{Common.{length, get_or, ap, ◌∙◌, arith, ◌/◌}, lemmas.List.{length_push}, lemmas.List.Elements.Contains-get_or}
use Rattle.ct_word.{proofs.Growth.place_within}
use Rattle.ct_worlds.{specs.Shape.shape_at, proofs.Shaped.shaped}
use Rattle.ct_rewrite.{specs.Signs.{IsFormAt, is_plus}, proofs.Passing.any_of, proofs.Finding.{at_least, have_all, have_parts, have_more}, proofs.Signs.{named_below, still_form}}
use Rattle.ct_word.specs.declared.kinds.Class.TheVariants as class
use Rattle.ct_rewrite.proofs.forms.forms.Goals as goal

pub form_at-requires-clause-condition : goal.form_at-requires-clause-condition
form_at-requires-clause-condition c =
    c.requires.conditions _ (any_of c.args.numbers.now _ (Contains-get_or c.args.numbers.now c.loop-number.number-index 0 c.loop-number-test.true))

pub form_at-requires-clause-parts : goal.form_at-requires-clause-parts
form_at-requires-clause-parts c =
    let ws = c.args.words.now in
    let ks = c.args.numbers.now in
    let at = c.loop-number.number-index in
    let k = get_or ks at 0 in
    let there = any_of ks k (Contains-get_or ks at 0 c.loop-number-test.true) in
    have_parts (IsFormAt ws c.loop-number.builder) c.loop-number.forms ks c.requires.rising at c.loop-number.invariant.forms c.loop-number-test.true _
    (named_below ws k (is_plus k) (shape_at ws (k / 2)) (shaped ws (k / 2) c.requires.formed (c.requires.conditions k there)).parts)
    (c.requires.closed k (omega arith) there)

pub loop-number-preserved : goal.loop-number-preserved
loop-number-preserved c =
    let ws = c.args.words.now in
    let ks = c.args.numbers.now in
    let at = c.loop-number.number-index in
    let k = get_or ks at 0 in
    let lt = c.loop-number-test.true in
    let loop = c.loop-number.invariant in
    let place = place_within ws class.Cond (k / 2) (c.requires.conditions k (any_of ks k (Contains-get_or ks at 0 lt))) in
    record {
      within = omega (arith, place, at_least ks c.requires.rising at lt);
      room = omega (arith, loop.room, c.in_ok-form.ensures.count);
      places = c.in_ok-push.ensures.places ∙ loop.places;
      long = omega (arith, ap length c.in_ok-push.ensures.positions, length_push c.loop-number.forms.positions c.in_ok-form.form, loop.long);
      forms =
          have_more (IsFormAt ws c.loop-number.builder) c.loop-number.forms ks c.requires.rising at loop.forms lt loop.places loop.long
          (IsFormAt ws c.form_at.new.builder) (λ i m h. still_form ws _ _ i m c.in_ok-form.ensures.grows h) c.push.new.self c.in_ok-form.form
          c.in_ok-push.ensures.places c.in_ok-push.ensures.positions c.in_ok-form.ensures.form;
    }

-- what a number costs is within the bound, also where memory runs out
pub returns-in_err-form-clause-room : goal.returns-in_err-form-clause-room
returns-in_err-form-clause-room c =
    let ks = c.args.numbers.now in
    let at = c.loop-number.number-index in
    let lt = c.loop-number-test.true in
    let place = place_within c.args.words.now class.Cond (get_or ks at 0 / 2) (c.requires.conditions _ (any_of ks _ (Contains-get_or ks at 0 lt))) in
    omega (arith, place, at_least ks c.requires.rising at lt, c.loop-number.invariant.room, c.form_at.ensures.count)

pub returns-in_err-push-clause-room : goal.returns-in_err-push-clause-room
returns-in_err-push-clause-room c =
    let ks = c.args.numbers.now in
    let at = c.loop-number.number-index in
    let lt = c.loop-number-test.true in
    let place = place_within c.args.words.now class.Cond (get_or ks at 0 / 2) (c.requires.conditions _ (any_of ks _ (Contains-get_or ks at 0 lt))) in
    omega (arith, place, at_least ks c.requires.rising at lt, c.loop-number.invariant.room, c.form_at.ensures.count)

pub returns-clause-forms : goal.returns-clause-forms
returns-clause-forms c = have_all (IsFormAt c.args.words.now c.loop-number.builder) c.loop-number.forms c.args.numbers.now c.requires.rising c.loop-number.number-index c.loop-number.invariant.forms c.loop-number-test.false
