use Rattle.std.{proofs.Common.{◌≡◌, ◌∙◌, ap, ◌++◌, [], ◌∷◌, Some, length, to_z, of_z, w32}, specs.Prelude.slice_get, proofs.lemmas.Int.to_z-of_z}
use borrow.Author.Rules.{sfits_of}
use Rattle.ct_trail.{specs.declared.log.Rup.Rup, specs.Standing.Standing, proofs.Boards.{unit_on, unit_is, unit_advances}}
use Rattle.ct_trail.proofs.board.Board.make_unit.Goals as goal

pub invariant_of-self-2 : goal.invariant_of-self-2
invariant_of-self-2 c =
    let step : Rup = record { clause = c.from_vec-clause.result; hints = c.from_vec-hints.result } in
    let at : slice_get c.self.inside.trail.items c.args.place ≡ Some c.requires.put = ap (λ (x : Standing). slice_get x.trail c.args.place) c.self.view_is ∙ c.requires.there in
    let literal = to_z-of_z w32 c.literal_at.result (sfits_of c.literal_at.type_inv) ∙ c.literal_at.ensures c.requires.put (ap (λ x. slice_get x c.args.place) c.as_slice-2.ensures.value ∙ at) in
    let alone = c.from_vec-clause.ensures ∙ c.in_ok-push.ensures.items ∙ ap (λ x. x ++ to_z w32 (of_z w32 c.literal_at.result) ∷ []) c.new-clause.ensures.items ∙ ap (λ l. l ∷ []) literal in
    unit_on c.args.self.now c.self.inside.vars c.self.inside.top c.self.inside.entries.items c.self.inside.trail.items c.self.inside.truths.items c.self.view_is c.self.invariant c.args.place c.in_ok-position.position c.args.hints.items c.requires step
    alone c.from_vec-hints.ensures (c.in_ok-position.ensures ∙ ap length c.as_slice.ensures.value) c.push-2.new.self.items c.in_ok-push-2.ensures.items c.set_reason.new.trail.items
    (c.set_reason.ensures.trail c.self.inside.vars c.self.inside.top) (c.set_reason.ensures.truths c.self.inside.vars)

pub returns-clause-is : goal.returns-clause-is
returns-clause-is c =
    let step : Rup = record { clause = c.from_vec-clause.result; hints = c.from_vec-hints.result } in
    let at : slice_get c.self.inside.trail.items c.args.place ≡ Some c.requires.put = ap (λ (x : Standing). slice_get x.trail c.args.place) c.self.view_is ∙ c.requires.there in
    let literal = to_z-of_z w32 c.literal_at.result (sfits_of c.literal_at.type_inv) ∙ c.literal_at.ensures c.requires.put (ap (λ x. slice_get x c.args.place) c.as_slice-2.ensures.value ∙ at) in
    let alone = c.from_vec-clause.ensures ∙ c.in_ok-push.ensures.items ∙ ap (λ x. x ++ to_z w32 (of_z w32 c.literal_at.result) ∷ []) c.new-clause.ensures.items ∙ ap (λ l. l ∷ []) literal in
    unit_is c.args.self.now c.self.inside.vars c.self.inside.top c.self.inside.entries.items c.self.inside.trail.items c.self.inside.truths.items c.self.view_is c.self.invariant c.args.place c.in_ok-position.position c.args.hints.items c.requires step
    alone c.from_vec-hints.ensures (c.in_ok-position.ensures ∙ ap length c.as_slice.ensures.value) c.push-2.new.self.items c.in_ok-push-2.ensures.items c.set_reason.new.trail.items
    (c.set_reason.ensures.trail c.self.inside.vars c.self.inside.top) c.set_reason.ensures.is

pub returns-clause-advances : goal.returns-clause-advances
returns-clause-advances c =
    let step : Rup = record { clause = c.from_vec-clause.result; hints = c.from_vec-hints.result } in
    let at : slice_get c.self.inside.trail.items c.args.place ≡ Some c.requires.put = ap (λ (x : Standing). slice_get x.trail c.args.place) c.self.view_is ∙ c.requires.there in
    let literal = to_z-of_z w32 c.literal_at.result (sfits_of c.literal_at.type_inv) ∙ c.literal_at.ensures c.requires.put (ap (λ x. slice_get x c.args.place) c.as_slice-2.ensures.value ∙ at) in
    let alone = c.from_vec-clause.ensures ∙ c.in_ok-push.ensures.items ∙ ap (λ x. x ++ to_z w32 (of_z w32 c.literal_at.result) ∷ []) c.new-clause.ensures.items ∙ ap (λ l. l ∷ []) literal in
    unit_advances c.args.self.now c.self.inside.vars c.self.inside.top c.self.inside.entries.items c.self.inside.trail.items c.self.inside.truths.items c.self.view_is c.self.invariant c.args.place c.in_ok-position.position c.args.hints.items c.requires step
    alone c.from_vec-hints.ensures (c.in_ok-position.ensures ∙ ap length c.as_slice.ensures.value) c.push-2.new.self.items c.in_ok-push-2.ensures.items c.set_reason.new.trail.items
    (c.set_reason.ensures.trail c.self.inside.vars c.self.inside.top) (c.set_reason.ensures.worth c.self.inside.vars)
