use Rattle.std.{proofs.Common.{◌≡◌, ◌∷◌, sym, subst}, proofs.lemmas.Result.IfOk-weaker}
use Rattle.ct_condition.specs.Terms.{BelowSome}
use Rattle.ct_tidy.specs.Nulls.{AreNullsOf, cut_to}
use Rattle.ct_certain.{specs.Own.IsShownBy, proofs.Short.cut_shows}
use Rattle.ct_certain.proofs.pool.own_part.Goals as goal

pub returns : goal.returns
returns c =
    let words = c.args.words.now in
    let row = c.args.row.now in
    let v = c.args.world.now in
    let ms = c.args.nulls.now.keys in
    let ns = c.in_ok-own.own.keys in
    let own = subst (λ cs. AreNullsOf (BelowSome words (row.cond ∷ cs)) ns) c.as_slice.ensures c.in_ok-own.ensures in
    IfOk-weaker c.cut.result (λ part. part ≡ cut_to ms ns v) (IsShownBy words c.args.global row)
    (λ part e. subst (IsShownBy words c.args.global row) (sym e) (cut_shows words c.requires.formed c.args.global row c.requires.asked ms ns c.requires.nulls own v c.requires.tidy c.requires.shown)) c.cut.ensures
