use Rattle.std.specs.Prelude.{IfSome}
use Rattle.std.proofs.Common.{◌≡◌, ◌∙◌, ◌<◌, length, sym, subst, Ok, Err, false, get_or, ap}
use Rattle.ct_worlds.proofs.Kept.{found_at, found_by}
use Rattle.ct_worlds.proofs.holding.holds.Goals as goal

pub returns-in-Ok : goal.returns-in-Ok
returns-in-Ok c =
    c.truth_with-in-Ok.ensures ∙ ap (λ bs. get_or bs c.in-Ok.number false) c.as_slice-in-Ok.ensures.value
    ∙ found_by c.args.truths.now.places.now c.args.truths.now.known.items c.args.place (Ok c.in-Ok.number) c.requires.rising c.in-Ok.ensures.position

pub returns-in-Err : goal.returns-in-Err
returns-in-Err c = found_by c.args.truths.now.places.now c.args.truths.now.known.items c.args.place (Err c.in-Err.field-0) c.requires.rising c.in-Err.ensures.position

pub returns-in-Some : goal.returns-in-Some
returns-in-Some c =
    let places = c.args.truths.now.places.now in
    let known = c.args.truths.now.known.items in
    let near = c.in-Some.near in
    let is = subst (λ o. IfSome o (λ k. (k < length places) × (get_or places k 0 ≡ c.args.place))) c.in-Some.is c.number_near.ensures in
    c.truth_with.ensures ∙ ap (λ bs. get_or bs near false) c.as_slice.ensures.value ∙ sym (found_at places known near c.args.place c.requires.rising is.0 is.1)
