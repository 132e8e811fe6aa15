use Rattle.std.{proofs.Common.{◌<◌, ℕ, List, [], ◌∷◌, ◌++◌, length, get_or, take, ap, sym, ◌∙◌, arith}, proofs.lemmas.List.take_more}
use Rattle.ct_rows.{specs.Entries.find, specs.Links.Slotted, proofs.Writing.{many, link_at, rows_new}}
use Rattle.ct_rows.proofs.links.Links.spread.Goals as goal

pub push-requires-clause-new : goal.push-requires-clause-new
push-requires-clause-new c =
    let i = c.self.inside in
    let p = c.loop-place.place in
    let x = c.at.result.now in
    ap (λ k. find k c.loop-place.spread.entries) (ap (λ (e : List ℕ × ℕ). e.0) c.in_ok-row.ensures)
    ∙ ap (λ (s : Slotted). find x.entry.0 s.entries) c.loop-place.invariant
    ∙ ap (λ (s : Slotted). find x.entry.0 (take p s.entries)) (sym c.self.view_is)
    ∙ rows_new i.count i.nodes i.heads c.self.invariant p x (omega arith) c.at.ensures

pub loop-place-preserved : goal.loop-place-preserved
loop-place-preserved c =
    let i = c.self.inside in
    let p = c.loop-place.place in
    let x = c.at.result.now in
    let es = c.args.self.now.entries in
    let lt : p < i.count = omega arith in
    let within : p < length es = omega (arith, ap (λ (s : Slotted). length s.entries) c.self.view_is, many i.count i.nodes i.heads c.self.invariant) in
    let slots = ap (λ (s : Slotted). s.slots) c.loop-place.invariant in
    let entry = c.in_ok-row.ensures ∙ sym (link_at i.count i.nodes p x c.self.invariant.within lt c.at.ensures (λ l. l.entry) x.entry) ∙ ap (λ (s : Slotted). get_or s.entries p x.entry) c.self.view_is in
    let entries = ap (λ (s : Slotted). s.entries ++ (c.in_ok-row.row.value.cells, c.in_ok-row.row.value.cond) ∷ []) c.loop-place.invariant ∙ ap (λ e. take p es ++ e ∷ []) entry ∙ sym (take_more es p x.entry within) in
    c.in_ok-push.ensures.put ∙ (λ k. record { slots = slots k; entries = entries k })
