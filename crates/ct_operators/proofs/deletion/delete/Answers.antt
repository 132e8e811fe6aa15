use Rattle.std.{proofs.Common.{[], ◌∷◌, sym, subst, arith}, proofs.lemmas.Result.err_from_is_err_and}
use Rattle.ct_worlds.specs.Below.{AreBelow}
use Rattle.ct_condition.proofs.Writes.{writes_none, writes_within}
use Rattle.ct_operators.{specs.Placing.ArePartsOf, proofs.Steps.parts_below}
use Rattle.ct_operators.proofs.deletion.delete.Goals as goal

pub sifted-requires-clause-fits : goal.sifted-requires-clause-fits
sifted-requires-clause-fits g c =
    let old = g.I.Interner.list c.args.pass.now in
    let cond = c.args.cond in
    let places = c.in_ok-places.places.items in (
      c.requires.cond,
      c.requires.columns,
      subst (ArePartsOf old cond) (sym c.as_slice.ensures.value)
          (parts_below old cond places c.words.ensures.formed c.requires.cond (subst (λ ws. AreBelow ws (cond ∷ []) places) c.words.ensures.words c.in_ok-places.ensures)),
    )

pub returns-clause-writes : goal.returns-clause-writes
returns-clause-writes g c = writes_within _ (omega arith) c.sifted.ensures.writes

pub returns-in_err-places-clause-writes : goal.returns-in_err-places-clause-writes
returns-in_err-places-clause-writes g c =
    let exit = err_from_is_err_and c.from_residual.result c.from_residual.ensures.1 in
    rw (exit.1, exit.2) (writes_none _ c.words.ensures.formed c.words.ensures.room)
