use Rattle.std.proofs.Common.{◌≡◌, ◌∙◌, Ok, Err, get_or, ap, subst}
use Rattle.ct_rewrite.{specs.Below.{Placement, position_at}, proofs.Finding.found_by}
use Rattle.ct_rewrite.proofs.positions.Positions.at.Goals as goal

pub returns-in-Ok : goal.returns-in-Ok
returns-in-Ok c =
    let ks = c.self.inside.positions.items in
    subst (λ (t : Placement). c.position_with.result ≡ position_at t c.args.place) c.self.view_is
    (c.position_with.ensures ∙ ap (λ js. get_or js c.in-Ok.number 0) c.as_slice.ensures.value
    ∙ found_by c.self.inside.places.now ks c.args.place (Ok c.in-Ok.number) c.self.invariant c.in-Ok.ensures.position)

pub returns-in-Err : goal.returns-in-Err
returns-in-Err c =
    subst (λ (t : Placement). 0 ≡ position_at t c.args.place) c.self.view_is
    (found_by c.self.inside.places.now c.self.inside.positions.items c.args.place (Err c.in-Err.field-0) c.self.invariant c.in-Err.ensures.position)
