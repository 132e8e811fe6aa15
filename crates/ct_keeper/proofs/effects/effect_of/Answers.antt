use Rattle.std.{proofs.Common.{map, sym, subst, ◌∙◌}, specs.Prelude.IfOk, proofs.lemmas.Result.IfOk-weaker}
use Rattle.ct_query.specs.Fits.{FitsChange}
use Rattle.ct_history.specs.Written.{plain_written}
use Rattle.ct_table.specs.Denotes.{heading_of}
use Rattle.ct_keeper.{specs.Effects.DoesChange, proofs.Finding.does_create}
use Rattle.ct_history.specs.declared.written.Written.TheVariants as written
use Rattle.ct_keeper.proofs.effects.effect_of.Goals as goal

pub returns-in-Create-clause-does : goal.returns-in-Create-clause-does
returns-in-Create-clause-does g c =
    let words = g.I.Interner.list c.args.pass.now in
    let db = c.args.db.now in
    let fits = subst (λ w. FitsChange (map heading_of db) (plain_written words w)) c.in-Create.is c.requires.fitting in
    subst (λ w. IfOk c.created.result (DoesChange words words db c.args.global w)) (sym c.in-Create.is)
    (IfOk-weaker c.created.result _ _ (λ made is. does_create words words db c.args.global c.in-Create.name c.in-Create.columns made is fits) c.created.ensures.is)

pub returns-in-Insert-clause-does : goal.returns-in-Insert-clause-does
returns-in-Insert-clause-does g c =
    subst (λ w. IfOk c.inserted.result (DoesChange (g.I.Interner.list c.args.pass.now) (g.I.Interner.list c.inserted.new.pass) c.args.db.now c.args.global w))
    ((λ i. written.Insert c.in-Insert.name (c.as_slice.ensures i)) ∙ sym c.in-Insert.is) (c.inserted.ensures.does c.args.global)

pub returns-in-Delete-clause-does : goal.returns-in-Delete-clause-does
returns-in-Delete-clause-does g c =
    subst (λ w. IfOk c.deleted.result (DoesChange (g.I.Interner.list c.args.pass.now) (g.I.Interner.list c.deleted.new.pass) c.args.db.now c.args.global w))
    (sym c.in-Delete.is) (c.deleted.ensures.does c.args.global)

pub returns-in-Update-clause-does : goal.returns-in-Update-clause-does
returns-in-Update-clause-does g c =
    subst (λ w. IfOk c.updated.result (DoesChange (g.I.Interner.list c.args.pass.now) (g.I.Interner.list c.updated.new.pass) c.args.db.now c.args.global w))
    ((λ i. written.Update c.in-Update.name (c.as_slice-in-Update.ensures i) c.in-Update.cond) ∙ sym c.in-Update.is) (c.updated.ensures.does c.args.global)
