use Rattle.std.proofs.lemmas.Result.{err_from_is_err_and}
use Rattle.ct_run.proofs.importing.served_behind.Goals as goal

pub returns-in_err-script-clause-unread : goal.returns-in_err-script-clause-unread
returns-in_err-script-clause-unread g c =
    let p = err_from_is_err_and c.from_residual.result c.from_residual.ensures.1 in
    rw (p.1, p.2) c.in_err-script.ensures.unread

pub returns-in_err-script-clause-no_script : goal.returns-in_err-script-clause-no_script
returns-in_err-script-clause-no_script g c =
    let p = err_from_is_err_and c.from_residual.result c.from_residual.ensures.1 in
    rw (p.1, p.2) c.in_err-script.ensures.no_script
