use Rattle.std.proofs.Common.{ap, sym, subst, ◌∙◌}
use Rattle.ct_word.specs.declared.values.CRow.{CRow}
use Rattle.ct_operators.specs.Merging.{rows_of, Merged}
use Rattle.ct_table.{specs.Growing.{put, put_each, Apart, Fits}, proofs.Joining.{joins_merged, joins_fits}, proofs.Putting.apart_more}
use Rattle.ct_table.proofs.preparing.insert_row.Goals as goal

pub returns-clause-merged : goal.returns-clause-merged
returns-clause-merged g c =
    let old = g.I.Interner.list c.args.pass.now in
    let new = g.I.Interner.list c.joint.new.pass in
    let es = c.args.stored.now.entries in
    let ps = c.args.pending.now.entries in
    let r = c.args.row.now in
    let is = c.in_ok-insert.ensures.entries ∙ ap (λ (x : CRow). put ps x.cells x.cond) c.in_ok-new.ensures in
    subst (λ l. Merged old new (rows_of (put_each es ps)) r (rows_of (put_each es l))) (sym is) (joins_merged old new es ps r c.in_ok-cond.cond c.requires.apart c.in_ok-cond.ensures.joins)

pub returns-clause-apart : goal.returns-clause-apart
returns-clause-apart g c =
    let ps = c.args.pending.now.entries in
    let is = c.in_ok-insert.ensures.entries ∙ ap (λ (x : CRow). put ps x.cells x.cond) c.in_ok-new.ensures in
    subst Apart (sym is) (apart_more c.args.row.now.cells c.in_ok-cond.cond ps c.requires.apart)

pub returns-clause-fits : goal.returns-clause-fits
returns-clause-fits g c =
    let new = g.I.Interner.list c.joint.new.pass in
    let es = c.args.stored.now.entries in
    let ps = c.args.pending.now.entries in
    let is = c.in_ok-insert.ensures.entries ∙ ap (λ (x : CRow). put ps x.cells x.cond) c.in_ok-new.ensures in
    subst (Fits es) (sym is) (joins_fits (g.I.Interner.list c.args.pass.now) new es ps c.args.row.now c.in_ok-cond.cond c.requires.apart c.requires.possible c.requires.fits c.in_ok-cond.ensures.joins)
