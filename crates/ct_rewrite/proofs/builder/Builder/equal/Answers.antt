use Rattle.std.proofs.lemmas.Result.{IfOk-weaker}
use Rattle.ct_rewrite.proofs.Sizes.{fits_as, equal_fits, unequal_fits}
use Rattle.ct_rewrite.proofs.builder.Builder.equal.Goals as goal

pub returns-then-sign-clause-fits : goal.returns-then-sign-clause-fits
returns-then-sign-clause-fits c =
    IfOk-weaker c.place.result _ _ (λ k e. fits_as _ _ _ e (equal_fits c.args.s c.args.t _ _ c.in_order-s.ensures.both)) c.place.ensures.value

pub returns-else-sign-clause-fits : goal.returns-else-sign-clause-fits
returns-else-sign-clause-fits c =
    IfOk-weaker c.place-else-sign.result _ _ (λ k e. fits_as _ _ _ e (unequal_fits c.args.s c.args.t _ _ c.in_order-s.ensures.both)) c.place-else-sign.ensures.value
