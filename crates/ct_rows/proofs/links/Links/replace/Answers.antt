use Rattle.std.{proofs.Common.{◌<◌, [], length, get_or, set, take, ap, sym, subst, ◌∙◌, arith}, specs.Map.keys_of}
use Rattle.ct_rows.{specs.Links.{Link, Slotted, AreRows, entries_of}, proofs.Writing.{many, key_at, rows_set, entries_set}}
use Rattle.ct_rows.proofs.links.Links.replace.Goals as goal

pub invariant_of-self-2 : goal.invariant_of-self-2
invariant_of-self-2 c =
    let i = c.self.inside in
    let p = c.args.place in
    let old = c.at.result.now in
    let lt : p < i.count = omega (arith, c.requires.place, ap (λ (s : Slotted). length s.entries) c.self.view_is, many i.count i.nodes i.heads c.self.invariant) in
    let same = ap (λ (l : Link). l.entry.0) c.new-node.ensures ∙ sym c.requires.cells ∙ ap (λ (s : Slotted). get_or (keys_of s.entries) p []) (sym c.self.view_is)
    ∙ key_at i.count i.nodes p old c.self.invariant.within lt c.at.ensures in
    let below = ap (λ (l : Link). l.below) c.new-node.ensures ∙ c.below-below.ensures in
    subst (λ ns. AreRows i.count ns i.heads) (sym c.in_ok-set.ensures.set)
    (rows_set i.count i.nodes i.heads c.self.invariant p old c.new-node.result lt c.at.ensures same below)

pub returns-clause-put : goal.returns-clause-put
returns-clause-put c =
    let i = c.self.inside in
    let p = c.args.place in
    let lt : p < i.count = omega (arith, c.requires.place, ap (λ (s : Slotted). length s.entries) c.self.view_is, many i.count i.nodes i.heads c.self.invariant) in
    let slots = ap (λ (s : Slotted). s.slots) c.self.view_is in
    let entry = ap (λ (l : Link). l.entry) c.new-node.ensures in
    let entries = ap (λ ns. entries_of (take i.count ns)) c.in_ok-set.ensures.set ∙ entries_set i.count i.nodes i.heads c.self.invariant p c.at.result.now c.new-node.result lt c.at.ensures
    ∙ ap (λ (s : Slotted). set s.entries p c.new-node.result.entry) c.self.view_is ∙ ap (λ e. set c.args.self.now.entries p e) entry in
    λ k. record { slots = slots k; entries = entries k }
