use Rattle.std.{proofs.Common.{◌≡◌, Bool, not, ap, sym, subst, ◌∙◌}, specs.List.AllByRecursion, specs.Prelude.{if◌then◌else◌}}
use Rattle.ct_worlds.proofs.Shaped.{shaped_as}
use Rattle.ct_rewrite.{specs.Below.{HasAt, position_at}, specs.Signs.{IsFormAt, named_by, number, is_plus, connective_for}, proofs.Results.IfOk-both}
use Rattle.ct_rewrite.proofs.Signs.{literal_form, form_of, denied_form, joined_form}
use Rattle.ct_rewrite.proofs.forms.form_at.Goals.{then-sign, else-sign}
use Rattle.ct_rewrite.proofs.forms.form_at.Goals as goal

pub equal_at-requires-clause-left : goal.equal_at-requires-clause-left
equal_at-requires-clause-left c = (shaped_as c.args.words.now _ c.requires.formed c.requires.condition c.shape_at.ensures c.in-Equal.is).terms.0

pub equal_at-requires-clause-right : goal.equal_at-requires-clause-right
equal_at-requires-clause-right c = (shaped_as c.args.words.now _ c.requires.formed c.requires.condition c.shape_at.ensures c.in-Equal.is).terms.1.0

pub returns-after-sign-clause-form : goal.returns-after-sign-clause-form
returns-after-sign-clause-form c =
    let is = shaped_as c.args.words.now _ c.requires.formed c.requires.condition c.shape_at.ensures c.in-Literal.is in
    let b = c.in-Literal.truth in
    let truth = λ (s : Bool). if s then b else not b in
    let by : c.if-sign.literal ≡ truth (is_plus c.args.number) = elim c.if-sign.branch [
      | then-sign w ↦ w.literal-is ∙ ap truth (sym w.if-sign.true ∙ c.is_plus-sign.ensures)
      | else-sign w ↦ w.literal-is ∙ ap truth (sym w.if-sign.false ∙ c.is_plus-sign.ensures)
    ] in
    IfOk-both c.literal.result _ _ _ (λ m. literal_form c.args.words.now c.literal.new.self c.args.number m b c.if-sign.literal is.condition by) c.literal.ensures.says c.literal.ensures.is

pub returns-in-Equal-clause-form : goal.returns-in-Equal-clause-form
returns-in-Equal-clause-form c =
    let is = shaped_as c.args.words.now _ c.requires.formed c.requires.condition c.shape_at.ensures c.in-Equal.is in
    IfOk-both c.equal_at.result _ _ _ (λ m. form_of c.args.words.now c.equal_at.new.builder c.args.number m _ is.condition)
    (rw c.is_plus-sign.ensures at c.equal_at.ensures.says) c.equal_at.ensures.fits

pub returns-in-Not-clause-form : goal.returns-in-Not-clause-form
returns-in-Not-clause-form c =
    let ws = c.args.words.now in
    let now = c.args.builder.now in
    let forms = c.args.forms.now in
    let k = c.args.number in
    let part = c.in-Not.part in
    let is = shaped_as ws _ c.requires.formed c.requires.condition c.shape_at.ensures c.in-Not.is in
    let have = subst (λ s. AllByRecursion (HasAt (IsFormAt ws now) forms) (named_by (is_plus k) s)) (sym c.shape_at.ensures ∙ c.in-Not.is) c.requires.parts in
    let key = c.signed.ensures ∙ ap (λ b. number part (not b)) c.is_plus-sign.ensures in
    let form = position_at forms (number part (not (is_plus k))) in
    subst (IsFormAt ws now k) (sym (c.at.ensures ∙ ap (position_at forms) key)) (denied_form ws now k form part is.condition have.0)

pub returns-in-Joined-clause-form : goal.returns-in-Joined-clause-form
returns-in-Joined-clause-form c =
    let ws = c.args.words.now in
    let now = c.args.builder.now in
    let forms = c.args.forms.now in
    let k = c.args.number in
    let is = shaped_as ws _ c.requires.formed c.requires.condition c.shape_at.ensures c.in-Joined.is in
    let have = subst (λ s. AllByRecursion (HasAt (IsFormAt ws now) forms) (named_by (is_plus k) s)) (sym c.shape_at.ensures ∙ c.in-Joined.is) c.requires.parts in
    let left_key = c.signed-in-Joined.ensures ∙ ap (number c.in-Joined.left) c.is_plus-sign.ensures in
    let right_key = c.signed-in-Joined-2.ensures ∙ ap (number c.in-Joined.right) c.is_plus-sign.ensures in
    let left = subst (IsFormAt ws now (number c.in-Joined.left (is_plus k))) (sym (c.at-left.ensures ∙ ap (position_at forms) left_key)) have.0 in
    let right = subst (IsFormAt ws now (number c.in-Joined.right (is_plus k))) (sym (c.at-right.ensures ∙ ap (position_at forms) right_key)) have.1.0 in
    let under = c.connective_for.ensures ∙ ap (λ s. connective_for s c.in-Joined.connective) c.is_plus-sign.ensures in
    IfOk-both c.joined.result _ _ _
    (λ m. joined_form ws now c.joined.new.self k c.in-Joined.left c.in-Joined.right c.at-left.result c.at-right.result m c.in-Joined.connective _ is.condition left right under)
    c.joined.ensures.says c.joined.ensures.fits
