use Rattle.std.{proofs.Common.{◌≡◌, ◌<◌, length, get_or, sym, subst}, specs.Arc.arc_value}
use Rattle.ct_word.specs.declared.values.CRow.{CRow}
use Rattle.ct_operators.specs.Merging.{rows_of}
use Rattle.ct_table.{specs.Growing.Keyed, proofs.Putting.row_of_first}
use Rattle.ct_table.proofs.sharing.Front.held.Goals as goal

pub returns : goal.returns
returns c =
    let all = (arc_value c.self.inside.stored).entries in
    let r = c.in_ok-shared.field-0.value in
    let place = c.args.place in
    let is : r ≡ get_or (rows_of all) place r = subst (λ (k : Keyed). r ≡ get_or (rows_of k.entries) place r) c.deref.ensures c.in_ok-shared.ensures in
    subst (λ (x : CRow). x ≡ get_or (rows_of c.args.self.now.entries) place x) (sym c.new.ensures)
    (subst (λ (k : Keyed). r ≡ get_or (rows_of k.entries) place r) c.self.view_is
    (row_of_first all c.self.inside.len place r c.self.invariant (subst (λ (k : Keyed). place < length k.entries) (sym c.self.view_is) c.requires) is))
