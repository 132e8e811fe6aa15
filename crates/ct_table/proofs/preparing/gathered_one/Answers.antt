use Rattle.std.proofs.Common.{◌≡◌, ◌∷◌, [], ◌++◌, None, Some, refl, ap, sym, subst, ◌∙◌, length}
use Rattle.ct_word.specs.declared.values.CRow.{CRow}
use Rattle.ct_operators.{specs.Merging.rows_of, proofs.Merges.gathers_more}
use Rattle.ct_table.{specs.Growing.{put_each, Joins, AreGathered}, proofs.Joining.{gathers_rows, joins_merged, joins_fits}}
use Rattle.ct_table.proofs.preparing.gathered_one.Goals as goal

pub returns-clause-gathered : goal.returns-clause-gathered
returns-clause-gathered g c =
    let old = g.I.Interner.list c.args.pass.now in
    let new = g.I.Interner.list c.joint.new.pass in
    let width = length c.args.stored.now.columns in
    let es = c.args.stored.now.entries in
    let r = c.args.row.now in
    let k = c.in_ok-cond.cond in
    let joins : Joins old new es r k = subst (λ l. Joins old new (put_each es l) r k) c.new-none.ensures.empty c.in_ok-cond.ensures.joins in
    let put = c.in_ok-put.ensures ∙ ap (λ (x : CRow). (x.cells, x.cond)) c.in_ok-new.ensures in
    let is = c.push_reserved.ensures.items ∙ ap (λ l. l ++ c.in_ok-put.put ∷ []) c.in_ok-puts.ensures.items ∙ ap (λ p. p ∷ []) put in
    subst (AreGathered old new width es (r ∷ [])) (sym is) (record {
      gathers = gathers_more old old new width (rows_of es) (rows_of es) (gathers_rows old width (rows_of es) c.requires.table) c.in_ok-cond.ensures.writes.longer c.words.ensures.formed r c.requires.row
          (rows_of (put_each es ((r.cells, k) ∷ []))) (joins_merged old new es [] r k tt joins);
      apart = (refl, tt);
      fits = joins_fits old new es [] r k tt c.requires.table.possible (λ cells x d found there. let bad : None ≡ Some x = found in cc) joins;
    })
