use Rattle.std.{proofs.Common.{◌≡◌, ◌∙◌, Some, refl, ap, sym, subst, set, length}, specs.Prelude.slice_get, proofs.lemmas.Option.{slice_get_read, same_Some}}
use Rattle.ct_trail.{specs.declared.trail.Put.Put, specs.Units.IsAloneAt, proofs.Reasoned.{same_truths, own_reason, same_worth}}
use Rattle.ct_trail.proofs.trail.set_reason.Goals as goal

pub returns-clause-is : goal.returns-clause-is
returns-clause-is c = λ p at.
    let trail = c.args.trail.now.items in
    let q = c.index_mut.result.now in
    let there : slice_get trail c.args.place ≡ Some q = slice_get_read trail (length trail) c.args.place q refl c.requires c.index_mut.ensures.value in
    ap (λ (x : Put). set trail c.args.place (record { literal = x.literal; reason = Some c.args.position })) (same_Some q p (sym there ∙ at))

pub returns-clause-truths : goal.returns-clause-truths
returns-clause-truths c = λ vars.
    let trail = c.args.trail.now.items in
    let p = c.index_mut.result.now in
    let there : slice_get trail c.args.place ≡ Some p = slice_get_read trail (length trail) c.args.place p refl c.requires c.index_mut.ensures.value in
    same_truths vars trail c.args.place p there (Some c.args.position)

pub returns-clause-trail : goal.returns-clause-trail
returns-clause-trail c = λ vars top log o t.
    let trail = c.args.trail.now.items in
    let p = c.index_mut.result.now in
    let there : slice_get trail c.args.place ≡ Some p = slice_get_read trail (length trail) c.args.place p refl c.requires c.index_mut.ensures.value in
    let same : o.put ≡ p = same_Some o.put p (sym o.there ∙ there) in
    let alone : IsAloneAt log c.args.position p.literal = subst (λ x. IsAloneAt log c.args.position x.literal) same o.alone in
    own_reason vars top log trail c.args.place c.args.position (record { put = p; there = there; alone = alone }) t

pub returns-clause-worth : goal.returns-clause-worth
returns-clause-worth c = λ vars reason at.
    let trail = c.args.trail.now.items in
    let p = c.index_mut.result.now in
    let there : slice_get trail c.args.place ≡ Some p = slice_get_read trail (length trail) c.args.place p refl c.requires c.index_mut.ensures.value in
    let same = same_Some at.put p (sym at.there ∙ there) in
    same_worth vars trail c.args.place p there reason c.args.position (ap (λ x. x.reason) (sym same) ∙ at.reasoned)
