use Rattle.std.{proofs.Common.{◌≡◌, ◌+◌, length, set, take, ap, sym, subst, ◌∙◌, arith}, proofs.lemmas.Option.get_or_from_slice_get}
use Rattle.ct_word.specs.declared.values.CRow.{CRow}
use Rattle.ct_rows.{specs.Entries.find, specs.Slots.slot_of, specs.Links.{Link, Slotted, AreRows, entries_of}}
use Rattle.ct_rows.proofs.Writing.{on_err, front_stays, rows_stay, rows_push}
use Rattle.ct_rows.proofs.links.Links.push.Goals as goal

pub invariant_of-self-in_err-set : goal.invariant_of-self-in_err-set
invariant_of-self-in_err-set c =
    let i = c.self.inside in
    subst (λ hs. AreRows i.count c.write.new.nodes hs) (sym c.in_err-set.ensures.same)
    (rows_stay i.count i.nodes i.heads c.self.invariant c.write.new.nodes c.new-node.result c.in_ok-write.ensures.within c.in_ok-write.ensures.front)

pub returns-in_err-set-clause-same : goal.returns-in_err-set-clause-same
returns-in_err-set-clause-same c =
    let i = c.self.inside in
    let slots = ap length c.in_err-set.ensures.same ∙ ap (λ (s : Slotted). s.slots) c.self.view_is in
    let entries = ap entries_of (front_stays i.count i.nodes c.write.new.nodes c.new-node.result c.self.invariant.within c.in_ok-write.ensures.front) ∙ ap (λ (s : Slotted). s.entries) c.self.view_is in
    on_err c.from_residual-in_err-set.result (λ k. record { slots = slots k; entries = entries k })

pub invariant_of-self-2 : goal.invariant_of-self-2
invariant_of-self-2 c =
    let i = c.self.inside in
    let x = c.new-node.result in
    let s = c.slot-slot.result in
    let more : c.in-Some.count ≡ i.count + 1 = omega (arith, c.in-Some.ensures) in
    let cells = ap (λ (l : Link). l.entry.0) c.new-node.ensures in
    let slot = c.slot-slot.ensures.is ∙ ap (λ n. slot_of n c.as_slice.result.now) c.len.ensures ∙ ap (slot_of (length i.heads)) (c.as_slice.ensures ∙ ap (λ (r : CRow). r.cells) c.deref.ensures ∙ sym cells) in
    let below = ap (λ (l : Link). l.below) c.new-node.ensures ∙ sym (get_or_from_slice_get i.heads s c.at.result.now 0 c.at.ensures) in
    let none = ap (λ k. find k (entries_of (take i.count i.nodes))) cells ∙ ap (λ (t : Slotted). find c.args.row.value.cells t.entries) c.self.view_is ∙ c.requires.new in
    subst (λ hs. AreRows c.in-Some.count c.write.new.nodes hs) (sym c.in_ok-set.ensures.set)
    (subst (λ m. AreRows m c.write.new.nodes (set i.heads s m)) (sym more)
    (rows_push i.count i.nodes i.heads c.self.invariant c.write.new.nodes x s c.in_ok-write.ensures.within c.in_ok-write.ensures.front below slot (omega (arith, c.slot-slot.ensures.within, c.len.ensures)) none))
