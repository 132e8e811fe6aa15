use Rattle.std.{proofs.Common.{ap, sym, subst, ◌∙◌}, proofs.lemmas.Result.on_ok_weaker}
use Rattle.ct_word.specs.declared.values.CRow.{CRow}
use Rattle.ct_rows.{specs.Entries.{find, put}, specs.Links.{Slotted, IsFirst}, proofs.Entries.{put_first, entry_last}}
use Rattle.ct_rows.proofs.rows.Rows.put.Goals as goal

pub returns-in-Some-clause-put : goal.returns-in-Some-clause-put
returns-in-Some-clause-put c =
    let es = c.self.inside.links.entries in
    let row = c.args.row.value in
    let cells = c.as_slice.ensures ∙ ap (λ (r : CRow). r.cells) c.deref.ensures in
    let first = subst (λ k. IsFirst es k c.in-Some.place) cells c.in-Some.ensures in
    on_ok_weaker c.replace.result
    (λ e. ap (λ (s : Slotted). s.entries) e ∙ put_first row.cells row.cond es c.in-Some.place first ∙ ap (λ l. put l row.cells row.cond) c.self.view_is)
    c.replace.ensures.put

pub returns-in-None-clause-put : goal.returns-in-None-clause-put
returns-in-None-clause-put c =
    let row = c.args.row.value in
    let cells = c.as_slice.ensures ∙ ap (λ (r : CRow). r.cells) c.deref.ensures in
    let none = ap (find row.cells) (sym c.self.view_is) ∙ ap (λ k. find k c.self.inside.links.entries) (sym cells) ∙ c.in-None.ensures in
    on_ok_weaker c.push.result (λ e. e ∙ sym (entry_last row.cells row.cond c.args.self.now none)) c.push.ensures.put
