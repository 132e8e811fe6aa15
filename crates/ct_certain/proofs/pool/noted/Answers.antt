use Rattle.std.{proofs.Common.{subst, sym, ap, ◌∙◌}, specs.Prelude.{IfSome, option_copied}}
use Rattle.ct_certain.{specs.{Answered.IsFound, Own.IsShownBy}, proofs.Short.found_shows}
use Rattle.ct_certain.proofs.pool.noted.Goals as goal

pub returns : goal.returns
returns c =
    let words = c.args.words.now in
    let row = c.args.row.now in
    let found = subst (λ o. IfSome o (IsFound words c.args.global row.cond)) (sym c.get.ensures.value ∙ ap option_copied c.in-Some.is) (c.requires.pool.found row.cond) in
    subst (IsShownBy words c.args.global row) (sym c.in_ok-world.ensures) (found_shows words c.args.global row c.in-Some.found.now found)
