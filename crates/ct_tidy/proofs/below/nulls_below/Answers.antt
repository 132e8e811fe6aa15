use Rattle.std.{proofs.Common.{◌∷◌, subst}, proofs.lemmas.Result.IfOk-weaker}
use Rattle.ct_condition.specs.Terms.{BelowSome}
use Rattle.ct_tidy.{specs.Nulls.{AreNullsOf, IsTermAtSome}, proofs.Gathered.nulls_gathered}
use Rattle.ct_tidy.proofs.below.nulls_below.Goals as goal

pub returns : goal.returns
returns c =
    let words = c.args.words.now in
    let roots = c.args.cond ∷ c.args.cells.now in
    IfOk-weaker c.nulls_at.result _ (λ s. AreNullsOf (BelowSome words roots) s.keys) (λ s are. nulls_gathered words c.requires.formed roots c.in_ok-places.places.keys c.in_ok-places.ensures s.keys
    (subst (λ ps. AreNullsOf (IsTermAtSome words ps) s.keys) c.as_slice.ensures.keys are)) c.nulls_at.ensures
