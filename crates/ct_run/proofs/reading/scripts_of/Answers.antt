use Rattle.std.{proofs.Common.{refl, subst}, specs.Prelude.All, proofs.lemmas.Result.{IfErr-weaker, err_from_is_err_and}}
use Rattle.ct_run.{specs.Scripts.IsScript, proofs.Reached.{no_script_of_all, no_script_before, unread, too_long, no_want, asked_one_more}}
use Rattle.ct_outside.specs.declared.scripts.ReadError.TheVariants as fault
use Rattle.ct_run.proofs.reading.scripts_of.Goals as goal

pub returns-in-Ok-clause-no_script : goal.returns-in-Ok-clause-no_script
returns-in-Ok-clause-no_script g c =
    IfErr-weaker c.as_scripts.result _ _ (λ e h is. no_script_of_all _ _ _ _ _ _ c.in-Ok.ensures.ok (h is) c.in-Ok.ensures.asked) c.as_scripts.ensures.no_script

pub returns-in_err-as_scripts-in-TooLong-clause-no_script : goal.returns-in_err-as_scripts-in-TooLong-clause-no_script
returns-in_err-as_scripts-in-TooLong-clause-no_script g c =
    let p = err_from_is_err_and c.from_residual.result c.from_residual.ensures.1 in
    let added = asked_one_more _ _ _ c.in-Err.unread.texts.items (c.in-Err.ensures.last (no_want fault.TooLong _ refl c.in-TooLong.is)) in
    rw (p.1, p.2) (λ is. no_script_before _ _ _ _ _ _ c.in-Err.ensures.err added (c.in_err-as_scripts-in-TooLong.ensures.no_script is))

pub returns-in_err-as_scripts-in-Failed-clause-no_script : goal.returns-in_err-as_scripts-in-Failed-clause-no_script
returns-in_err-as_scripts-in-Failed-clause-no_script g c =
    let p = err_from_is_err_and c.from_residual-in_err-as_scripts-in-Failed.result c.from_residual-in_err-as_scripts-in-Failed.ensures.1 in
    let added = asked_one_more _ _ _ c.in-Err.unread.texts.items (c.in-Err.ensures.last (no_want fault.Failed _ refl c.in-Failed.is)) in
    rw (p.1, p.2) (λ is. no_script_before _ _ _ _ _ _ c.in-Err.ensures.err added (c.in_err-as_scripts-in-Failed.ensures.no_script is))

pub returns-in_ok-as_scripts-in-TooLong-clause-no_script : goal.returns-in_ok-as_scripts-in-TooLong-clause-no_script
returns-in_ok-as_scripts-in-TooLong-clause-no_script g c =
    let ok = c.in_ok-as_scripts-in-TooLong.ensures in
    let added = asked_one_more _ _ _ c.in-Err.unread.texts.items (c.in-Err.ensures.last (no_want fault.TooLong _ refl c.in-TooLong.is)) in
    λ is. too_long _ _ _ _ _ _ c.in-Err.ensures.err added c.in-TooLong.is (subst (All IsScript) ok.same ok.scripts)

pub returns-in_ok-as_scripts-in-Failed-clause-unread : goal.returns-in_ok-as_scripts-in-Failed-clause-unread
returns-in_ok-as_scripts-in-Failed-clause-unread g c =
    let ok = c.in_ok-as_scripts-in-Failed.ensures in
    let added = asked_one_more _ _ _ c.in-Err.unread.texts.items (c.in-Err.ensures.last (no_want fault.Failed _ refl c.in-Failed.is)) in
    λ is. unread _ _ _ _ _ _ c.in-Err.ensures.err added (subst (All IsScript) ok.same ok.scripts)
