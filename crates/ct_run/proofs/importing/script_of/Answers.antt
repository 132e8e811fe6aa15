use Rattle.std.{proofs.Common.{sym, subst}, proofs.lemmas.Result.{IfErr-weaker, err_from_is_err_and}}
use Rattle.ct_outside.specs.Outside.{Holds}
use Rattle.ct_run.{specs.Imports.{no_file, no_end}, proofs.Behind.{first_asked, front_asked, both_asked, rose_later, long_end, none_behind, behind_of, on_ok}}
use Rattle.ct_run.proofs.importing.script_of.Goals as goal

pub returns-in_err-imported-clause-in_order : goal.returns-in_err-imported-clause-in_order
returns-in_err-imported-clause-in_order g c = first_asked _ _ _ _ c.table_of.ensures.in_order

pub returns-in_err-own-clause-in_order : goal.returns-in_err-own-clause-in_order
returns-in_err-own-clause-in_order g c = front_asked _ _ _ _ _ c.in_ok-imported.ensures.asked c.bytes_of.ensures.in_order

pub returns-in_err-own-clause-rose : goal.returns-in_err-own-clause-rose
returns-in_err-own-clause-rose g c =
    let p = err_from_is_err_and c.from_residual-in_err-own.result c.from_residual-in_err-own.ensures.1 in
    rw (p.1, p.2) (λ e. rose_later _ _ _ c.table_of.ensures.later (c.in_err-own.ensures.rose e))

pub returns-in_err-own-clause-unread : goal.returns-in_err-own-clause-unread
returns-in_err-own-clause-unread g c =
    let p = err_from_is_err_and c.from_residual-in_err-own.result c.from_residual-in_err-own.ensures.1 in
    let i = c.in_ok-imported in
    rw (p.1, p.2) (λ e. no_file i.imported i.ensures.ok (both_asked _ _ _ _ _ i.ensures.asked (c.in_err-own.ensures.unread e)))

pub returns-in_err-own-clause-no_script : goal.returns-in_err-own-clause-no_script
returns-in_err-own-clause-no_script g c =
    let p = err_from_is_err_and c.from_residual-in_err-own.result c.from_residual-in_err-own.ensures.1 in
    let i = c.in_ok-imported in
    rw (p.1, p.2) (λ e. no_end i.imported i.ensures.ok (long_end _ _ i.imported c.args.file.now c.table_of.ensures.still (c.in_err-own.ensures.long e))
    (both_asked _ _ _ _ _ i.ensures.asked (c.in_err-own.ensures.asked_long e)))

pub returns-clause-in_order : goal.returns-clause-in_order
returns-clause-in_order g c = front_asked _ _ _ _ _ c.in_ok-imported.ensures.asked c.bytes_of.ensures.in_order

pub returns-clause-ok : goal.returns-clause-ok
returns-clause-ok g c =
    let i = c.in_ok-imported in
    let S = g.S.Scripts in
    let mid = S.held c.table_of.new.source in
    behind_of c.behind.result (S.held c.args.source.now) mid c.args.name.now c.args.csv.now c.args.file.now i.imported c.as_slice.result.now i.ensures.ok c.table_of.ensures.still
    (subst (λ b. Holds mid c.args.file.now b) (sym c.as_slice.ensures.value) c.in_ok-own.ensures.held) c.behind.ensures.joined c.behind.ensures.script

pub returns-clause-asked : goal.returns-clause-asked
returns-clause-asked g c = on_ok c.behind.result (both_asked _ _ _ _ _ c.in_ok-imported.ensures.asked c.in_ok-own.ensures.asked)

pub returns-clause-no_script : goal.returns-clause-no_script
returns-clause-no_script g c =
    let i = c.in_ok-imported in
    let mid = g.S.Scripts.held c.table_of.new.source in
    let held = subst (λ b. Holds mid c.args.file.now b) (sym c.as_slice.ensures.value) c.in_ok-own.ensures.held in
    IfErr-weaker c.behind.result _ _ (λ e h is.
    no_end i.imported i.ensures.ok (none_behind _ _ i.imported c.args.file.now c.table_of.ensures.still c.as_slice.result.now held (h is)) (both_asked _ _ _ _ _ i.ensures.asked c.in_ok-own.ensures.asked))
    c.behind.ensures.none
