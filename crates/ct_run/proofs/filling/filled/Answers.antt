use Rattle.std.{proofs.Common.{length, ap, sym, subst, ◌∙◌, arith}, specs.Prelude.{All, ◌≤◌}}
use Rattle.ct_lex.specs.Texts.{texts}
use Rattle.ct_run.proofs.Generated.{four_generated, short_generated}
use Rattle.ct_run.proofs.filling.filled.Goals as goal

pub serve-requires-clause-some : goal.serve-requires-clause-some
serve-requires-clause-some g c κs within =
    let four = ap length (c.as_slice.ensures.value ∙ c.in_ok-scripts.ensures) ∙ four_generated c.args.n in omega (arith, four)

pub serve-requires-clause-most_scripts : goal.serve-requires-clause-most_scripts
serve-requires-clause-most_scripts g c κs within =
    let four = ap length (c.as_slice.ensures.value ∙ c.in_ok-scripts.ensures) ∙ four_generated c.args.n in omega (arith, four)

pub serve-requires-clause-few : goal.serve-requires-clause-few
serve-requires-clause-few g c κs within =
    subst (All (λ script. length (texts script) ≤ 65535)) (sym (c.as_slice.ensures.value ∙ c.in_ok-scripts.ensures)) (short_generated c.args.n c.requires)
